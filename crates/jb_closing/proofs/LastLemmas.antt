-- The last record of a target decides what the state says of it.
use Rattle.std.proofs.Common.{◌≡◌, ℕ, zero, suc, ◌+◌, ◌<◌, true, false, cond, List, [], ◌∷◌, ◌++◌, length, Option, Some, None, slice_get, refl, sym, ap, subst, ◌∙◌, ⊎_elim, arith, ◌↔◌, replicate, set, length-set}
use Rattle.std.specs.FinMap as map
use Rattle.std.specs.FinMap.{get-insert}
use Rattle.std.specs.Ordering.{eq_by_cmp}
use Rattle.std.specs.Cmp.Lexicographic.{nat_list_cmp_total}
use Rattle.std.proofs.lemmas.Bool.{cases_Bool, cases_eq, cases_lt}
use Rattle.std.proofs.lemmas.List.{length-replicate}
use Rattle.mk_names.specs.Names.{name_at, has_name}
use Rattle.mk_names.proofs.NameLemmas.{has_name_at}
use Rattle.mk_nodes.specs.Node.{EachHasOneNumber}
use Rattle.std.proofs.lemmas.Option.{same_Some, slice_get_within}
use Rattle.st_records.specs.declared.record.Record.{Record}
use Rattle.st_records.specs.declared.record.Record.TheVariants as records
use Rattle.st_records.specs.declared.record.Entry.{Entry}
use Rattle.st_records.specs.declared.record.Phase.TheVariants as phases
use Rattle.st_records.specs.Parts.{target_of, commands_of}
use Rattle.st_state.specs.State.{StateMap, apply_record, replay}
use Rattle.st_state.proofs.StateLemmas.{by_bytes, by_bytes-same, same_bytes}
use Rattle.jb_closing.specs.Last.{IsSilentFrom, IsLastAt, IsLast, IsLastPlace, ArePlaces, IsDoneRecord, EndsDone, IsDoneIn}
use Rattle.jb_closing.proofs.ListLemmas.{at_end, at_before, at_push_cases, at_set, at_set_other}

-- an entry set under another name leaves this one's
insert_other : (m : StateMap) (name : List ℕ) (entry : Entry) (target : List ℕ) → (name ≡ target → ⊥)
    → map.get (map.insert m name entry) target ≡ map.get m target
insert_other m name entry target apart =
    get-insert nat_list_cmp_total m name entry target
    ∙ ⊎_elim (λ same. absurd (apart (sym (same_bytes target name same))))
    (λ other. ap (λ b. cond b (Some entry) (map.get m target)) other)
    (cases_Bool (eq_by_cmp by_bytes target name))

insert_own : (m : StateMap) (name : List ℕ) (entry : Entry) → map.get (map.insert m name entry) name ≡ Some entry
insert_own m name entry =
    get-insert nat_list_cmp_total m name entry name ∙ ap (λ b. cond b (Some entry) (map.get m name)) (by_bytes-same name)

-- a record of another target leaves what the state says of this one
apply_other : (m : StateMap) (note : Record) (target : List ℕ) → (target_of note ≡ target → ⊥)
    → map.get (apply_record m note) target ≡ map.get m target
apply_other m (records.Begun name) target apart = insert_other m name _ target apart
apply_other m (records.Done name commands hidden explicit) target apart = insert_other m name _ target apart
apply_other m (records.Failed name status) target apart = insert_other m name _ target apart
apply_other m (records.Kept name entry) target apart = insert_other m name entry target apart

-- none of the rest of a list is of the target either
silent_tail : (target : List ℕ) (note : Record) (notes : List Record) (from : ℕ)
    → IsSilentFrom (suc from) target (note ∷ notes) → IsSilentFrom from target notes
silent_tail target note notes from silent = λ place other from_on there own. silent (suc place) other (omega (arith, from_on)) there own

-- records of others leave what the state says of the target
replay_silent : (m : StateMap) (notes : List Record) (target : List ℕ) → IsSilentFrom 0 target notes
    → map.get (replay m notes) target ≡ map.get m target
replay_silent m [] target silent = refl
replay_silent m (note ∷ notes) target silent =
    replay_silent (apply_record m note) notes target (λ place other from_on there own. silent (suc place) other (omega arith) there own)
    ∙ apply_other m note target (λ own. silent 0 note (omega arith) refl own)

-- a 'done' with nothing of the target behind it: the target is done with its commands
done_first : (m : StateMap) (note : Record) (notes : List Record) (target : List ℕ) → target_of note ≡ target → IsDoneRecord note
    → IsSilentFrom 1 target (note ∷ notes) → IsDoneIn (replay m (note ∷ notes)) target (commands_of note)
done_first m (records.Begun name) notes target own done silent = absurd done
done_first m (records.Done name commands hidden explicit) notes target own done silent = record {
  entry = record { phase = phases.Done; commands = commands; hidden = hidden; explicit = explicit };
  found = replay_silent (apply_record m (records.Done name commands hidden explicit)) notes target (silent_tail target _ notes 0 silent)
      ∙ subst (λ t. map.get (map.insert m name (record { phase = phases.Done; commands = commands; hidden = hidden; explicit = explicit })) t
      ≡ Some (record { phase = phases.Done; commands = commands; hidden = hidden; explicit = explicit })) own (insert_own m name _);
  phase = refl;
  commands_are = refl;
}
done_first m (records.Failed name status) notes target own done silent = absurd done
done_first m (records.Kept name entry) notes target own done silent = absurd done

done_at : (m : StateMap) (notes : List Record) (target : List ℕ) (place : ℕ) (note : Record) → slice_get notes place ≡ Some note
    → target_of note ≡ target → IsSilentFrom (place + 1) target notes → IsDoneRecord note
    → IsDoneIn (replay m notes) target (commands_of note)
done_at m [] target place note there own silent done = cc
done_at m (first ∷ notes) target zero note there own silent done =
    let same : first ≡ note = same_Some first note there in
    subst (λ n. IsDoneIn (replay m (first ∷ notes)) target (commands_of n)) same
    (done_first m first notes target (ap target_of same ∙ own) (subst IsDoneRecord (sym same) done) silent)
done_at m (first ∷ notes) target (suc place) note there own silent done =
    done_at (apply_record m first) notes target place note there own
    (λ later other from_on there_too own_too. silent (suc later) other (omega (arith, from_on)) there_too own_too) done

-- the state after records whose last one of the target is a 'done': it is done with that record's commands
pub last_done : (m : StateMap) (notes : List Record) (target : List ℕ) (note : Record) → IsLast notes target note → IsDoneRecord note
    → IsDoneIn (replay m notes) target (commands_of note)
last_done m notes target note last done =
    let at = last.1 in done_at m notes target last.0 note at.stands at.own at.silent done

-- a target has one last record
pub one_last : (notes : List Record) (target : List ℕ) (a b : ℕ) (note other : Record)
    → IsLastAt notes target a note → IsLastAt notes target b other → a ≡ b
one_last notes target a b note other x y =
    ⊎_elim (λ before. absurd (x.silent b other (omega (arith, before)) y.stands y.own))
    (λ not_before. ⊎_elim (λ behind. absurd (y.silent a note (omega (arith, behind)) x.stands x.own))
    (λ not_behind. omega (arith, not_before, not_behind)) (cases_lt b a)) (cases_lt a b)

-- ---- one record more

-- a record of the target at the end is its last one
pub last-push_own : (notes : List Record) (note : Record) (target : List ℕ) → target_of note ≡ target
    → IsLastPlace (notes ++ note ∷ []) target (Some (length notes))
last-push_own notes note target own = (
  note,
  record {
    stands = at_end notes note;
    own = own;
    silent = λ place other from there of_target.
        ⊎_elim (λ before. omega (arith, from, before.0)) (λ new. omega (arith, from, new.0)) (at_push_cases notes note place other there);
  },
)

silent-push : (notes : List Record) (note : Record) (target : List ℕ) (from : ℕ) → (target_of note ≡ target → ⊥)
    → IsSilentFrom from target notes → IsSilentFrom from target (notes ++ note ∷ [])
silent-push notes note target from apart silent = λ place other from_on there own.
    ⊎_elim (λ before. silent place other from_on before.1 own) (λ new. apart (ap target_of new.1 ∙ own)) (at_push_cases notes note place other there)

-- a record of another target at the end leaves the last place of this one
pub last-push_other : (notes : List Record) (note : Record) (target : List ℕ) (at : Option ℕ) → (target_of note ≡ target → ⊥)
    → IsLastPlace notes target at → IsLastPlace (notes ++ note ∷ []) target at
last-push_other notes note target None apart silent = silent-push notes note target 0 apart silent
last-push_other notes note target (Some place) apart last =
    let at = last.1 in (
      last.0,
      record {
        stands = at_before notes note place (slice_get_within notes place last.0 at.stands) ∙ at.stands;
        own = at.own;
        silent = silent-push notes note target (place + 1) apart at.silent;
      },
    )

-- no record so far
pub places_at_first : (names : List (List ℕ)) (places : List (Option ℕ)) → places ≡ replicate (length names) None → ArePlaces [] names places
places_at_first names places are = record {
  each_one = ap length are ∙ length-replicate (length names) None;
  place = λ node at has.
      subst (λ (o : Option ℕ). IsLastPlace [] (name_at names node) o) (sym (none_at (length names) node at (ap (λ xs. slice_get xs node) (sym are) ∙ has)))
      (λ place note from there own. nothing place note there);
}
  where
    none_at : (n node : ℕ) (at : Option ℕ) → slice_get (replicate n None) node ≡ Some at → at ≡ None
    none_at zero node at has = cc
    none_at (suc n) zero at has = sym (same_Some None at has)
    none_at (suc n) (suc node) at has = none_at n node at has

    nothing : (place : ℕ) (note : Record) → slice_get [] place ≡ Some note → ⊥
    nothing place note there = cc

-- one record more of a name: that name's last place is its own
pub places-set : (names : List (List ℕ)) (notes : List Record) (note : Record) (places : List (Option ℕ)) (node : ℕ)
    → EachHasOneNumber names → node < length names → name_at names node ≡ target_of note → ArePlaces notes names places
    → ArePlaces (notes ++ note ∷ []) names (set places node (Some (length notes)))
places-set names notes note places node distinct within named are = record {
  each_one = length-set places node (Some (length notes)) ∙ are.each_one;
  place = λ other at has. ⊎_elim (own other at has) (others other at has) (cases_eq node other);
}
  where
    own : (other : ℕ) (at : Option ℕ) → slice_get (set places node (Some (length notes))) other ≡ Some at → node ≡ other
        → IsLastPlace (notes ++ note ∷ []) (name_at names other) at
    own other at has e =
        let there : Some (length notes) ≡ at =
        same_Some (Some (length notes)) at (sym (at_set places node (Some (length notes)) (omega (arith, within, are.each_one)))
        ∙ ap (slice_get (set places node (Some (length notes)))) e ∙ has) in
        subst (λ (o : Option ℕ). IsLastPlace (notes ++ note ∷ []) (name_at names other) o) there
        (last-push_own notes note (name_at names other) (sym named ∙ ap (name_at names) e))

    others : (other : ℕ) (at : Option ℕ) → slice_get (set places node (Some (length notes))) other ≡ Some at → (node ≡ other → ⊥)
        → IsLastPlace (notes ++ note ∷ []) (name_at names other) at
    others other at has apart =
        let before : slice_get places other ≡ Some at = sym (at_set_other places node other (Some (length notes)) apart) ∙ has in
        let below : other < length names = omega (arith, slice_get_within places other at before, are.each_one) in
        last-push_other notes note (name_at names other) at (λ same. apart (distinct node other within below (named ∙ same)))
        (are.place other at before)

-- one record more that is of no name
pub places-same : (names : List (List ℕ)) (notes : List Record) (note : Record) (places : List (Option ℕ))
    → has_name names (target_of note) ≡ false → ArePlaces notes names places → ArePlaces (notes ++ note ∷ []) names places
places-same names notes note places none are = record {
  each_one = are.each_one;
  place = λ node at has.
      last-push_other notes note (name_at names node) at (apart node (omega (arith, slice_get_within places node at has, are.each_one)))
      (are.place node at has);
}
  where
    apart : (node : ℕ) → node < length names → target_of note ≡ name_at names node → ⊥
    apart node within same = let both : true ≡ false = sym (has_name_at names node within) ∙ ap (has_name names) (sym same) ∙ none in cc

-- a last place is within
pub place_within : (notes : List Record) (target : List ℕ) (place : ℕ) → IsLastPlace notes target (Some place) → place < length notes
place_within notes target place last = slice_get_within notes place last.0 (last.1).stands

-- the record at a last place decides
pub ends_at : (notes : List Record) (target : List ℕ) (place : ℕ) (note : Record) → IsLastPlace notes target (Some place)
    → slice_get notes place ≡ Some note → IsDoneRecord note ↔ EndsDone notes target
ends_at notes target place note last there = (yes_then, no_other)
  where
    same : last.0 ≡ note
    same = same_Some last.0 note (sym (last.1).stands ∙ there)

    yes_then : IsDoneRecord note → EndsDone notes target
    yes_then done = (last.0, (place, last.1), subst IsDoneRecord (sym same) done)

    no_other : EndsDone notes target → IsDoneRecord note
    no_other ends =
        let at : place ≡ (ends.1).0 = one_last notes target place (ends.1).0 last.0 ends.0 last.1 (ends.1).1 in
        subst IsDoneRecord (same_Some ends.0 note (sym ((ends.1).1).stands ∙ ap (slice_get notes) (sym at) ∙ there)) ends.2

pub ends_nowhere : (notes : List Record) (target : List ℕ) → IsLastPlace notes target None → EndsDone notes target → ⊥
ends_nowhere notes target silent ends =
    silent (ends.1).0 ends.0 (omega arith) ((ends.1).1).stands ((ends.1).1).own
