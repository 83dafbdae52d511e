-- A walk of `unfilled`: the local of our own type is read through a pointer of libc's, which lies in memory as it does, field for field.
use mathlib.Core.List.{[], ◌∷◌}
use mathlib.Core.Path.{refl}
use lib.Dec.{lit<}
use lib.IntN.{pos}
use lib.ListN.{replicate}
use base.Fraction.{full_share}
use base.Logic.{via}
use base.Fml.{fat}
use mir.Raw.{raw as as_machine}
use mir.Syntax.{w16, w32, w64}
use mir.Val.{Val, vint, vstruct, of_list, WT}
use prog.Wp.{Env}
use types.Kit.{‵, raw, at_ret, ◌$◌, ◌∵◌, !, qed, done, drop, use1, suffices}
use types.Part.{agg, rep}
use types.Run.{enter, of_opd, lit, addr, from, load, look, stop, no_more, and_then, first, blocks, exec, returns}
use types.ByLocal.{alloc_all, pass_all, free_all, look_at, get, through, sets, sets_last, take_at, give_at, env}
use contract.Running.{tables}
use denote.Array.{Array}
use denote.Builtin.{u16, u64}
use denote.Laws.{Is}
use denote.Steps.{nothing, owned}
use denote.Struct.Laws.{makes}
use denote.Triple.Entry.{on_entry}
use denote.Triple.Walked.{walk_of}
use Rattle.std.proofs.raw_atomic.Walks.{proved, leaves}
use Rattle.libc.specs.contracts.types.statx as statx
use Rattle.libc.specs.contracts.types.statx_timestamp as timestamp
use Rattle.libc.proofs.types.statx.TheLaws as statx_laws
use Rattle.dmk_host.proofs.unfilled.Fields.TheLaws as fields_laws
use Rattle.dmk_host.specs.contracts.unfilled.unfilled as f
use Rattle.dmk_host.proofs.unfilled.unfilled.Statement.{statement}
use Rattle.dmk_host.proofs.unfilled.unfilled.Code as code

-- the values that the code makes
abbrev moment : Val
moment = vstruct (of_list (vint w64 0 ∷ vint w32 0 ∷ vint w32 0 ∷ []))

abbrev one : Val
one = vstruct (of_list (vint w16 0 ∷ []))

abbrev twelve : Val
twelve = vstruct (of_list (replicate 12 (vint w64 0)))

abbrev zeros : Val
zeros = vstruct (of_list (vint w32 0 ∷ vint w32 0 ∷ vint w64 0 ∷ vint w32 0 ∷ vint w32 0 ∷ vint w32 0 ∷ vint w16 0 ∷ one ∷ vint w64 0 ∷ vint w64 0 ∷ vint w64 0 ∷ vint w64 0
    ∷ moment ∷ moment ∷ moment ∷ moment ∷ vint w32 0 ∷ vint w32 0 ∷ vint w32 0 ∷ vint w32 0 ∷ vint w64 0 ∷ vint w32 0 ∷ vint w32 0 ∷ twelve ∷ []))

w16_ok : WT (vint w16 0)
w16_ok = record { fits = lit< tt }

w32_ok : WT (vint w32 0)
w32_ok = record { fits = lit< tt }

w64_ok : WT (vint w64 0)
w64_ok = record { fits = lit< tt }

moment_ok : WT moment
moment_ok = (w64_ok, (w32_ok, (w32_ok, tt)))

one_ok : WT one
one_ok = (w16_ok, tt)

twelve_ok : WT twelve
twelve_ok = (w64_ok, (w64_ok, (w64_ok, (w64_ok, (w64_ok, (w64_ok, (w64_ok, (w64_ok, (w64_ok, (w64_ok, (w64_ok, (w64_ok, tt))))))))))))

zeros_ok : WT zeros
zeros_ok = (
  w32_ok,
  (
    w32_ok,
    (
      w64_ok,
      (
        w32_ok,
        (
          w32_ok,
          (
            w32_ok,
            (
              w16_ok,
              (
                one_ok,
                (
                  w64_ok,
                  (
                    w64_ok,
                    (
                      w64_ok,
                      (
                        w64_ok,
                        (moment_ok, (moment_ok, (moment_ok, (moment_ok, (w32_ok, (w32_ok, (w32_ok, (w32_ok, (w64_ok, (w32_ok, (w32_ok, (twelve_ok, tt)))))))))))),
                      ),
                    ),
                  ),
                ),
              ),
            ),
          ),
        ),
      ),
    ),
  ),
)

-- the value of libc's type that the contract sees
abbrev never : timestamp.the_type.D
never = timestamp.struct.make (pos 0, (0, (pos 0, tt))) tt

abbrev blank : statx.the_type.D
blank = statx.struct.make (0, (0, (0, (0, (0, (0, (0, (0 ∷ [], (0, (0, (0, (0, (never, (never, (never, (never, (0, (0, (0, (0, (0, (0, (0, (replicate 12 0, tt)))))))))))))))))))))))) tt

never_is : Is timestamp.the_row never (moment ∷ [])
never_is = ((vint w64 0 ∷ [], (vint w32 0 ∷ [], (vint w32 0 ∷ [], tt))), (refl, ((refl, lit< tt), ((refl, lit< tt), ((refl, lit< tt), tt)))))

one_is : Is (Array u16 1) (0 ∷ []) (one ∷ [])
one_is = (vint w16 0 ∷ [], ((refl, refl), ((refl, lit< tt), tt)))

twelve_is : Is (Array u64 12) (replicate 12 0) (twelve ∷ [])
twelve_is = (replicate 12 (vint w64 0), ((refl, refl), ((refl, lit< tt), ((refl, lit< tt), ((refl, lit< tt), ((refl, lit< tt), ((refl, lit< tt), ((refl, lit< tt), ((refl, lit< tt), ((refl, lit< tt), ((refl, lit< tt), ((refl, lit< tt), ((refl, lit< tt), ((refl, lit< tt), tt))))))))))))))

blank_is : Is statx.the_row blank (zeros ∷ [])
blank_is = ((vint w32 0 ∷ [], (vint w32 0 ∷ [], (vint w64 0 ∷ [], (vint w32 0 ∷ [], (vint w32 0 ∷ [], (vint w32 0 ∷ [], (vint w16 0 ∷ [], (one ∷ [], (vint w64 0 ∷ [], (vint w64 0 ∷ [], (vint w64 0 ∷ [], (vint w64 0 ∷ [], (moment ∷ [], (moment ∷ [], (moment ∷ [], (moment ∷ [], (vint w32 0 ∷ [], (vint w32 0 ∷ [], (vint w32 0 ∷ [], (vint w32 0 ∷ [], (vint w64 0 ∷ [], (vint w32 0 ∷ [], (vint w32 0 ∷ [], (twelve ∷ [], tt)))))))))))))))))))))))), (refl, ((refl, lit< tt), ((refl, lit< tt), ((refl, lit< tt), ((refl, lit< tt), ((refl, lit< tt), ((refl, lit< tt), ((refl, lit< tt), (one_is, ((refl, lit< tt), ((refl, lit< tt), ((refl, lit< tt), ((refl, lit< tt), (never_is, (never_is, (never_is, (never_is, ((refl, lit< tt), ((refl, lit< tt), ((refl, lit< tt), ((refl, lit< tt), ((refl, lit< tt), ((refl, lit< tt), ((refl, lit< tt), (twelve_is, tt))))))))))))))))))))))))))

pub unfilled_spec : {M : Type 1} → statement M
unfilled_spec 𝓤 𝓛 𝓜 𝓡 wired =
    let c = f.clauses 𝓛 𝓜.mem 𝓡.returns in let W = walk_of 𝓛 f.ended tt c in let 𝓣 = tables 𝓤 𝓛.H 𝓜 𝓡 𝓡.env in
    proved 𝓛 f.ended tt c 𝓜 𝓡 tt f.Key.name code.function (code.unfolded 𝓤 𝓛.H 𝓜 𝓡 wired) (λ κs. tt) (λ κs. tt) (λ κs qs bounds a g are.
    let y : W.Ghost = ((κs, qs, bounds, a, tt), g) in
    qed 𝓛 (raw (on_entry 𝓛 f.signature κs qs a tt) ∷ raw ((c κs a).requires g) ∷ []) ∵ drop ! $ drop ! $
    enter ! 𝓣.C 𝓣.Λ code.function [] _ $ alloc_all ! (λ l. pass_all ! refl tt $
    let En : Env 𝓤 𝓛.H = env (code.function).locals l in
    sets ! (agg ! (and_then ! (lit ! tt) (no_more !))) refl (tt, one_ok) $
    sets ! (agg ! (and_then ! (lit ! tt) (and_then ! (lit ! tt) (and_then ! (lit ! tt) (no_more !))))) refl (tt, moment_ok) $
    sets ! (agg ! (and_then ! (lit ! tt) (and_then ! (lit ! tt) (and_then ! (lit ! tt) (no_more !))))) refl (tt, moment_ok) $
    sets ! (agg ! (and_then ! (lit ! tt) (and_then ! (lit ! tt) (and_then ! (lit ! tt) (no_more !))))) refl (tt, moment_ok) $
    sets ! (agg ! (and_then ! (lit ! tt) (and_then ! (lit ! tt) (and_then ! (lit ! tt) (no_more !))))) refl (tt, moment_ok) $
    sets ! (rep ! 12 (lit ! tt)) refl (tt, twelve_ok) $
    sets ! (agg ! (and_then ! (lit ! tt) (and_then ! (lit ! tt) (and_then ! (lit ! tt) (and_then ! (lit ! tt) (and_then ! (lit ! tt) (and_then ! (lit ! tt) (and_then ! (lit ! tt) (and_then ! (get ! refl)
    (and_then ! (lit ! tt) (and_then ! (lit ! tt) (and_then ! (lit ! tt) (and_then ! (lit ! tt) (and_then ! (get ! refl) (and_then ! (get ! refl) (and_then ! (get ! refl) (and_then ! (get ! refl)
    (and_then ! (lit ! tt) (and_then ! (lit ! tt) (and_then ! (lit ! tt) (and_then ! (lit ! tt) (and_then ! (lit ! tt) (and_then ! (lit ! tt) (and_then ! (lit ! tt) (and_then ! (get ! refl) (no_more !)))))))))))))))))))))))))) refl (tt, zeros_ok) $
    sets ! (of_opd ! (get ! refl)) refl (tt, zeros_ok) $
    sets ! (addr ! (from ! (stop !))) refl (tt, tt) $
    -- the local lies in memory as libc's struct does: a struct's name says nothing of how it lies
    take_at ! 1 $ use1 𝓛 (‵ (fat full_share statx_laws.mir (l 1) 0 zeros))
    (via 𝓤 (𝓛.H.at full_share (as_machine fields_laws.mir) (l 1) 0 zeros) (𝓛.laws.at_raw full_share fields_laws.mir (l 1) 0 zeros) (𝓛.laws.raw_at full_share statx_laws.mir (l 1) 0 zeros)) $
    first ! $ blocks ! $ sets_last ! (of_opd ! (load ! (through ! refl (stop !)) (look ! 0 refl))) refl (tt, zeros_ok) $ exec ! 𝓣.C 𝓣.Λ En code.Mir.t-11 (at_ret En (W.post y)) $
    use1 𝓛 (‵ (fat full_share fields_laws.mir (l 1) 0 zeros))
    (via 𝓤 (𝓛.H.at full_share (as_machine statx_laws.mir) (l 1) 0 zeros) (𝓛.laws.at_raw full_share statx_laws.mir (l 1) 0 zeros) (𝓛.laws.raw_at full_share fields_laws.mir (l 1) 0 zeros)) $ give_at ! 1 $
    sets ! (of_opd ! (get ! refl)) refl (tt, zeros_ok) $
    returns ! (look_at ! 0 refl) $ free_all ! refl $
    suffices ! _ (leaves 𝓛 f.ended tt c y zeros blank tt tt) $
    nothing ! $ owned ! statx.the_row (Is statx.the_row) (makes statx.the_type statx_laws.the_plain 𝓛) blank (zeros ∷ []) blank_is $ nothing ! $ nothing ! $ done !))
