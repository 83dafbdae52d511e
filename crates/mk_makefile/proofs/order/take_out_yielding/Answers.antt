use Rattle.std.proofs.Common.{rules, ◌≡◌, ◌∙◌, Bool, true, not, cond, List, sym, ap}
use Rattle.std.specs.Prelude.{filter}
use Rattle.std.proofs.lemmas.Fn.{filter_same}
use Rattle.mk_makefile.specs.Order.{has_own_through_c, goes_by_c}
use Rattle.mk_makefile.specs.declared.form.Form.{Form}
use Rattle.mk_makefile.proofs.order.take_out_yielding.Goals as goal

pub returns-then-has_own_through_c : goal.returns-then-has_own_through_c
returns-then-has_own_through_c c =
    let lines = c.args.lines.now in
    let listed : List Form = c.args.listed.now.items in
    let stands : Form → Bool = λ form. not (goes_by_c lines form) in
    let left : c.retain.new.self.items ≡ filter stands listed = filter_same _ stands _ (λ form b after is. search rules) _ _ c.retain.ensures.filtered in
    let makes : has_own_through_c lines listed ≡ true = cc in
    left ∙ sym (ap (λ b. cond b (filter stands listed) listed) makes)
