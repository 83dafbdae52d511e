use Rattle.std.proofs.Common.{◌≡◌, true, false, ℕ, List, Some, [], ◌∷◌, ◌++◌, cond, length, sym, ap, subst, ◌∙◌}
use Rattle.std.specs.Prelude.{bytes_eq}
use Rattle.mk_names.specs.Names.{has_name, all_added}
use Rattle.dmk_files.specs.Stamps.{Known, KnowsTheSame, known_stamp, told_of}
use Rattle.dmk_files.proofs.KnownLemmas.{Told}
use Rattle.dmk_files.proofs.ListedLemmas.{of_error, as_many_new, listed_last, listed_told, listed_of}
use Rattle.dmk_files.proofs.stamps.Stamps.list.Goals as goal

pub invariant_of-self-2 : goal.invariant_of-self-2
invariant_of-self-2 c =
    let name = c.args.name.now in
    let found : List (List ℕ) = c.self.inside.found in
    let listed : List (List ℕ) = c.self.inside.listed in
    let told : List Told = c.self.inside.told.items in
    let one : Told = c.in_ok-told.told in
    let no_found : has_name found name ≡ false = subst (λ (k : Known). has_name k.found name ≡ false) (sym c.self.view_is) c.requires.no_found in
    let no_listed : has_name listed name ≡ false = subst (λ (k : Known). has_name k.listed name ≡ false) (sym c.self.view_is) c.requires.no_listed in
    let pushed = c.push_reserved.ensures.items ∙ ap (λ (ts : List Told). ts ++ one ∷ []) c.in_ok-make_room.ensures.items in
    record {
      once = c.self.invariant.once;
      as_many = ap length pushed ∙ as_many_new (all_added found listed) told name one c.self.invariant.as_many
          ∙ ap length (sym (listed_last found listed name no_found no_listed)) ∙ ap (λ (l : List (List ℕ)). length (all_added found l)) (sym c.in_ok-push.ensures.ok);
    }

pub returns-clause-ok : goal.returns-clause-ok
returns-clause-ok c = λ n.
    let name = c.args.name.now in
    let found : List (List ℕ) = c.self.inside.found in
    let listed : List (List ℕ) = c.self.inside.listed in
    let told : List Told = c.self.inside.told.items in
    let one : Told = c.in_ok-told.told in
    let no_found : has_name found name ≡ false = subst (λ (k : Known). has_name k.found name ≡ false) (sym c.self.view_is) c.requires.no_found in
    let no_listed : has_name listed name ≡ false = subst (λ (k : Known). has_name k.listed name ≡ false) (sym c.self.view_is) c.requires.no_listed in
    let pushed = c.push_reserved.ensures.items ∙ ap (λ (ts : List Told). ts ++ one ∷ []) c.in_ok-make_room.ensures.items in
    ap (λ (l : List (List ℕ)). told_of (all_added found l) c.push_reserved.new.self.items n) c.in_ok-push.ensures.ok
    ∙ ap (λ (ts : List Told). told_of (all_added found (listed ++ name ∷ [])) ts n) pushed
    ∙ listed_told found listed told name one n no_found no_listed c.self.invariant.as_many
    ∙ ap (λ (t : Told). cond (bytes_eq n name) t (told_of (all_added found listed) told n)) c.in_ok-told.ensures
    ∙ ap (λ (k : Known). cond (bytes_eq n name) (Some c.args.look) (known_stamp k n)) c.self.view_is

pub returns-clause-listed : goal.returns-clause-listed
returns-clause-listed c = λ n is.
    let name = c.args.name.now in
    let same = ap (λ (k : Known). k.listed) c.self.view_is in
    listed_of c.args.self.now.listed name n (subst (λ (l : List (List ℕ)). has_name l n ≡ true) (c.in_ok-push.ensures.ok ∙ ap (λ (l : List (List ℕ)). l ++ name ∷ []) same) is)

pub returns-in_err-make_room-clause-err : goal.returns-in_err-make_room-clause-err
returns-in_err-make_room-clause-err c =
    let after : Known = record { found = c.self.inside.found; listed = c.self.inside.listed; told = c.make_room.new.items.items } in
    let same : KnowsTheSame c.args.self.now after = λ n.
    ap (λ (ts : List Told). told_of (all_added c.self.inside.found c.self.inside.listed) ts n) c.in_err-make_room.ensures.items
    ∙ ap (λ (k : Known). known_stamp k n) c.self.view_is in
    of_error c.from_residual-in_err-make_room.result _ same

pub returns-in_err-push-clause-err : goal.returns-in_err-push-clause-err
returns-in_err-push-clause-err c =
    let after : Known = record { found = c.self.inside.found; listed = c.push.new.self; told = c.make_room.new.items.items } in
    let same : KnowsTheSame c.args.self.now after = λ n.
    ap (λ (l : List (List ℕ)). told_of (all_added c.self.inside.found l) c.make_room.new.items.items n) c.in_err-push.ensures.err
    ∙ ap (λ (ts : List Told). told_of (all_added c.self.inside.found c.self.inside.listed) ts n) c.in_ok-make_room.ensures.items
    ∙ ap (λ (k : Known). known_stamp k n) c.self.view_is in
    of_error c.from_residual-in_err-push.result _ same
