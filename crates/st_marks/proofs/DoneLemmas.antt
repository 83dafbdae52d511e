-- A done record of version 4 says one thing, and is spelled in one way.
use Rattle.std.proofs.Common.{◌≡◌, ◌∙◌, ℕ, List, ◌++◌, sym, ap, subst}
use Rattle.st_records.specs.declared.version.Form.TheVariants as forms
use Rattle.st_records.specs.declared.record.Record.{Record}
use Rattle.st_records.specs.Parts.{target_of, commands_of, hidden_of, explicit_of, names_known, marks_known}
use Rattle.st_records.specs.Encoding.{encoding_in}
use Rattle.st_records.proofs.Decoding.{one_encoding_in_lem}
use Rattle.st_marks.specs.Encoding.{IsText}
use Rattle.st_marks.specs.Done.{Done, done_record, IsDone}
use Rattle.st_marks.proofs.TextLemmas.{same_said}

pub same_done : (d e : Done) (a b x y : List ℕ) → IsDone d a → IsDone e b → a ++ x ≡ b ++ y → (d ≡ e) × (x ≡ y)
same_done d e a b x y f g is =
    let r = done_record d f.text in
    let s = done_record e g.text in
    let joined : encoding_in forms.Marked r ++ x ≡ encoding_in forms.Marked s ++ y =
    ap (λ (t : List ℕ). t ++ x) (sym f.stands.bytes_are) ∙ is ∙ ap (λ (t : List ℕ). t ++ y) g.stands.bytes_are in
    let one = one_encoding_in_lem forms.Marked r s x y f.stands.good g.stands.good joined in
    let text : f.text ≡ g.text = ap (λ (q : Record). marks_known (explicit_of q)) one.0 in
    let said = same_said d.source e.source d.marks e.marks g.text (subst (IsText d.source d.marks) text f.says) g.says in
    let target : d.target ≡ e.target = ap target_of one.0 in
    let commands : d.commands ≡ e.commands = ap commands_of one.0 in
    let hidden : d.hidden ≡ e.hidden = ap hidden_of one.0 in
    let explicit : d.explicit ≡ e.explicit = ap (λ (q : Record). names_known (explicit_of q)) one.0 in
    (λ i. record { target = target i; commands = commands i; hidden = hidden i; explicit = explicit i; source = said.0 i; marks = said.1 i }, one.1)

pub same_bytes : (d : Done) (a b : List ℕ) → IsDone d a → IsDone d b → a ≡ b
same_bytes d a b f g =
    let text : f.text ≡ g.text = f.says.text_is ∙ sym g.says.text_is in
    f.stands.bytes_are ∙ ap (λ (t : List ℕ). encoding_in forms.Marked (done_record d t)) text ∙ sym g.stands.bytes_are
