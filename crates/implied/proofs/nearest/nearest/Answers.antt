-- `implied::nearest::nearest` is the definition: twice the rest is at least b where what is missing to b is at most the rest.
use Rattle.std.proofs.Common.{◌+◌, ◌/◌, ap, arith, sym, ◌∙◌}
use Rattle.std.proofs.Math.Nat.{div-add-mod}
use Rattle.implied.specs.Nearest.{nearest}
use Rattle.implied.proofs.Laws.Nearest.{nearest_of_none, nearest_only}
use Rattle.implied.proofs.nearest.nearest.Goals as goal

pub returns-then-b-eq0 : goal.returns-then-b-eq0
returns-then-b-eq0 c = sym (ap (nearest c.args.a) c.if-b-eq0.true ∙ nearest_of_none c.args.a)

pub returns-then-b-rest : goal.returns-then-b-rest
returns-then-b-rest c =
    let a = c.args.a in
    let b = c.args.b in
    sym (nearest_only a b (a / b + 1) (omega (arith, div-add-mod a b)) (omega (arith, div-add-mod a b)))

pub returns-else-b-rest : goal.returns-else-b-rest
returns-else-b-rest c =
    let a = c.args.a in
    let b = c.args.b in
    sym (nearest_only a b (a / b) (omega (arith, div-add-mod a b)) (omega (arith, div-add-mod a b)))
