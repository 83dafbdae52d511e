-- What special rules set, taken in one line after the other, is what all lines set.
use Rattle.std.specs.List.{list_any, flat_map}
use Rattle.std.specs.Prelude.{is_none, is_some, if◌then◌else◌}
use Rattle.std.proofs.Common.{◌≡◌, ◌∙◌, ℕ, Bool, true, false, ◌||◌, List, [], ◌∷◌, ◌++◌, append_assoc, append-nil, Option, Some, None, refl, sym, ap}
use Rattle.mk_names.specs.Names.{all_added}
use Rattle.mk_names.proofs.NameLemmas.{all_added-append, or_none, or_both}
use Rattle.mk_reader.specs.declared.special.SpecialName.{SpecialName}
use Rattle.mk_settings.specs.Goals.{is_no_parallel, is_delete_on_error, is_depfile, depfile_patterns, settings_of}
use Rattle.mk_rule_lines.specs.Rules.{has_special}
use Rattle.mk_settings.specs.Marks.{speaks_of_all, names_in, patterns_in}
use Rattle.mk_rule_lines.specs.Rules.{is_rule}
use Rattle.mk_settings.specs.Pools.{pool_in}
use Rattle.mk_settings.specs.Settled.{patterns_said, depfiles_with, nothing_set, marked_with, settings_with}
use Rattle.mk_settings.specs.declared.marked.Mark.{Mark}
use Rattle.mk_settings.specs.declared.marked.Mark.TheVariants.{Ignored, Silent, Precious, Console}
use Rattle.mk_settings.specs.declared.marked.Marked.{Marked}
use Rattle.mk_rule_lines.specs.declared.rule_line.RuleLine.{RuleLine}
use Rattle.mk_settings.specs.declared.settings.Settings.{Settings}

-- the targets of a mark with those of these lines
abbrev marked_behind : Mark → Marked → List RuleLine → Marked
marked_behind m marked lines = record {
  all = marked.all || list_any (speaks_of_all m) lines;
  names = all_added marked.names (flat_map (names_in m) lines);
  patterns = marked.patterns ++ flat_map (patterns_in m) lines;
}

marked-more : (m : Mark) (marked : Marked) (l : RuleLine) (lines : List RuleLine) → marked_behind m (marked_with m marked l) lines ≡ marked_behind m marked (l ∷ lines)
marked-more m marked l lines =
    let all = or_both marked.all (speaks_of_all m l) (list_any (speaks_of_all m) lines) in
    let names = all_added-append marked.names (names_in m l) (flat_map (names_in m) lines) in
    let patterns = append_assoc marked.patterns (patterns_in m l) (flat_map (patterns_in m) lines) in
    cc

-- where recipes write what they read, with further lines, of which some may be of `.DEPFILE`, with these patterns
abbrev depfiles_by : Option (List (List ℕ)) → Bool → List (List ℕ) → Option (List (List ℕ))
depfiles_by said more patterns = if is_some said || more then Some (patterns_said said ++ patterns) else None

abbrev depfiles_behind : Option (List (List ℕ)) → List RuleLine → Option (List (List ℕ))
depfiles_behind said lines = depfiles_by said (has_special is_depfile lines) (flat_map depfile_patterns lines)

depfiles-none : (said : Option (List (List ℕ))) → (if is_some said then Some (patterns_said said) else None) ≡ said
depfiles-none None = refl
depfiles-none (Some patterns) = refl

-- one more line, which may be of it, before others
depfiles-next : (said : Option (List (List ℕ))) (is more : Bool) (names patterns : List (List ℕ)) →
    depfiles_by (if is then Some (patterns_said said ++ names) else said) more patterns
    ≡ depfiles_by said (is || more) ((if is then names else []) ++ patterns)
depfiles-next None true more names patterns = refl
depfiles-next None false more names patterns = refl
depfiles-next (Some said) true more names patterns = ap Some (append_assoc said names patterns)
depfiles-next (Some said) false more names patterns = refl

depfiles-more : (said : Option (List (List ℕ))) (l : RuleLine) (lines : List RuleLine) →
    depfiles_behind (depfiles_with said l) lines ≡ depfiles_behind said (l ∷ lines)
depfiles-more said l lines = depfiles-next said (is_depfile l.special) (has_special is_depfile lines) l.prerequisites (flat_map depfile_patterns lines)

-- the settings with what these lines set
abbrev all_behind : Settings → List RuleLine → Settings
all_behind s lines = record {
  has_one_worker = s.has_one_worker || has_special is_no_parallel lines;
  deletes_on_error = s.deletes_on_error || has_special is_delete_on_error lines;
  depfiles = depfiles_behind s.depfiles lines;
  ignored = marked_behind Ignored s.ignored lines;
  silent = marked_behind Silent s.silent lines;
  precious = marked_behind Precious s.precious lines;
  console = marked_behind Console s.console lines;
  pools = s.pools ++ flat_map pool_in lines;
}

settings-none : (s : Settings) → s ≡ all_behind s []
settings-none s = simp (or_none, append-nil, depfiles-none) refl

settings-more : (s : Settings) (l : RuleLine) (lines : List RuleLine) → all_behind (settings_with s l) lines ≡ all_behind s (l ∷ lines)
settings-more s l lines =
    let one = or_both s.has_one_worker (is_no_parallel l.special) (has_special is_no_parallel lines) in
    let deletes = or_both s.deletes_on_error (is_delete_on_error l.special) (has_special is_delete_on_error lines) in
    let depfiles = depfiles-more s.depfiles l lines in
    let ignored = marked-more Ignored s.ignored l lines in
    let silent = marked-more Silent s.silent l lines in
    let precious = marked-more Precious s.precious l lines in
    let console = marked-more Console s.console l lines in
    let pools = append_assoc s.pools (pool_in l) (flat_map pool_in lines) in
    cc

-- what is set behind these lines
abbrev pub settings_behind : Settings → List RuleLine → Settings
settings_behind s [] = s
settings_behind s (l ∷ lines) = settings_behind (settings_with s l) lines

settings_behind-all : (s : Settings) (lines : List RuleLine) → settings_behind s lines ≡ all_behind s lines
settings_behind-all s [] = settings-none s
settings_behind-all s (l ∷ lines) = settings_behind-all (settings_with s l) lines ∙ settings-more s l lines

-- all lines are taken in
pub settings-are : (lines : List RuleLine) → settings_behind nothing_set lines ≡ settings_of lines
settings-are lines = settings_behind-all nothing_set lines

-- one more line is taken in
pub settings-next : (s next whole : Settings) (l : RuleLine) (left rest : List RuleLine) → left ≡ l ∷ rest → next ≡ settings_with s l →
    settings_behind s left ≡ whole → settings_behind next rest ≡ whole
settings-next s next whole l left rest at e h = ap (λ n. settings_behind n rest) e ∙ ap (settings_behind s) (sym at) ∙ h

sets_nothing : (s : Settings) (l : RuleLine) → l.special ≡ None → settings_with s l ≡ s
sets_nothing s l e = simp (e, or_none, append-nil) refl

no_special : (o : Option SpecialName) → is_none o ≡ true → o ≡ None
no_special None e = refl
no_special (Some name) e = absurd cc

-- a line that is no special rule sets nothing
pub settings-rule : (s : Settings) (l : RuleLine) → is_rule l ≡ true → s ≡ settings_with s l
settings-rule s l e = sym (sets_nothing s l (no_special l.special e))
