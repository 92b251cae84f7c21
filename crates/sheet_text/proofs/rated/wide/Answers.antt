-- `sheet_text::rated::wide` meets its contract: lists that agree at every place are the same. Assumes nothing.
use Rattle.std.proofs.Common.{ℕ, arith, get_or, length, map, of_z, pos, refl, rules, set, subst, sym, to_z, ⊎_elim, ◌∙◌, ◌≡◌}
use Rattle.std.specs.Int.{w128}
use Rattle.std.proofs.lemmas.Bool.{cases_eq}
use Rattle.std.proofs.lemmas.Int.{to_z-of_z}
use Rattle.std.proofs.lemmas.List.{ext_get_or, get_or-map, get_or-set_same, get_or-set_other, length-map, length-set}
use Rattle.sheet_text.proofs.rated.wide.Goals as goal

pub loop-i-init : goal.loop-i-init
loop-i-init c = (refl, λ k none. absurd (omega (arith, none)))

pub loop-i-preserved : goal.loop-i-preserved
loop-i-preserved c =
    let values = c.loop-i.values in
    let i = c.loop-i.i in
    let z = to_z w128 (of_z w128 c.from.result) in
    let next : z ≡ pos (get_or c.args.sheet i 0) = to_z-of_z w128 c.from.result (record { sfits = c.from.type_inv }) ∙ c.from.ensures in (
      omega (arith, length-set values i z, c.loop-i.invariant.0),
      λ k there.
          ⊎_elim
          (λ is_next.
          subst (λ (n : ℕ). get_or (set values i z) n (pos 0) ≡ pos (get_or c.args.sheet n 0)) (sym is_next)
          (get_or-set_same values i z (pos 0) (omega (arith, c.loop-i.invariant.0, c.loop-i-test.true)) ∙ next))
          (λ other.
          get_or-set_other values i k z (pos 0) other ∙ c.loop-i.invariant.1 k (omega (arith, there, other)))
          (cases_eq k i),
    )

pub returns : goal.returns
returns c =
    let sheet = c.args.sheet in
    let size : length sheet ≡ 13 = search rules in
    let whole : c.loop-i.i ≡ 13 = omega (arith, c.loop-i-test.false, c.loop-i.auto.i-end) in
    ext_get_or (pos 0) c.loop-i.values (map pos sheet) (omega (arith, c.loop-i.invariant.0, length-map sheet pos, size))
    (λ k there.
    c.loop-i.invariant.1 k (omega (arith, there, c.loop-i.invariant.0, whole))
    ∙ sym (get_or-map pos sheet k 0 (pos 0) (omega (arith, there, c.loop-i.invariant.0, size))))
