-- A command with the sources that it names.
use Rattle.std.proofs.Common.{◌≡◌, ◌∙◌, ℕ, Bool, true, false, List, [], ◌∷◌, ◌++◌, ◌<◌, length, append_assoc, append-nil, cond, refl, sym, ap, arith}
use Rattle.std.specs.Prelude.{filter, map as list_map}
use Rattle.std.proofs.lemmas.List.{length-map}
use Rattle.st_records.specs.Parts.{names_known}
use Rattle.st_records.specs.declared.record.Entry.{Entry}
use Rattle.st_answers.specs.Compilations.{compiled, compiled_by, compiled_from, is_source_in, sources_in, with_sources}
use Rattle.st_answers.specs.declared.compiling.Compilation.{Compilation}

module _ (command output : List ℕ) where
  sources_of_both : (xs ys : List (List ℕ)) → compiled_from command output (filter (is_source_in command) (xs ++ ys))
      ≡ compiled_from command output (filter (is_source_in command) xs) ++ compiled_from command output (filter (is_source_in command) ys)
  sources_of_both [] ys = refl
  sources_of_both (x ∷ xs) ys =
      elim (is_source_in command x) as (λ b. compiled_from command output (cond b (x ∷ filter (is_source_in command) (xs ++ ys)) (filter (is_source_in command) (xs ++ ys)))
      ≡ compiled_from command output (cond b (x ∷ filter (is_source_in command) xs) (filter (is_source_in command) xs)) ++ compiled_from command output (filter (is_source_in command) ys)) [
        | true ↦ ap (λ t. record { command = command; file = x; output = output } ∷ t) (sources_of_both xs ys)
        | false ↦ sources_of_both xs ys
      ]

module _ (take_all : Bool) (command : List ℕ) (e : List ℕ × Entry) (old new : List Compilation) where
  taken : (sources : List (List ℕ)) → list_map compiled new ≡ list_map compiled old ++ compiled_from command e.0 sources → length old < length new
      → list_map compiled new ≡ list_map compiled old ++ with_sources take_all command e sources
  taken [] parts more =
      let same : length new ≡ length old = sym (length-map new compiled) ∙ ap length (parts ∙ append-nil (list_map compiled old)) ∙ length-map old compiled in
      absurd (omega (arith, same, more))
  taken (s ∷ ss) parts more = parts

  -- sources were found, among the explicit prerequisites and then among the hidden ones
  pub sources_taken : (first : List Compilation) (names hidden : List (List ℕ)) → names ≡ names_known e.1.explicit → hidden ≡ e.1.hidden
      → list_map compiled first ≡ list_map compiled old ++ compiled_from command e.0 (filter (is_source_in command) names)
      → list_map compiled new ≡ list_map compiled first ++ compiled_from command e.0 (filter (is_source_in command) hidden)
      → length old < length new → list_map compiled new ≡ list_map compiled old ++ compiled_by take_all e command
  sources_taken first names hidden named hid one two more =
      taken (sources_in command e.1)
      (two
      ∙ ap (λ t. t ++ compiled_from command e.0 (filter (is_source_in command) hidden)) one
      ∙ append_assoc (list_map compiled old) (compiled_from command e.0 (filter (is_source_in command) names)) (compiled_from command e.0 (filter (is_source_in command) hidden))
      ∙ ap (λ t. list_map compiled old ++ t) (sym (sources_of_both command e.0 names hidden))
      ∙ ap (λ xs. list_map compiled old ++ compiled_from command e.0 (filter (is_source_in command) (xs ++ hidden))) named
      ∙ ap (λ ys. list_map compiled old ++ compiled_from command e.0 (filter (is_source_in command) (names_known e.1.explicit ++ ys))) hid)
      more
