-- `text::bytes::put_bytes` meets its contract: where there is room for all bytes, all are kept. Assumes nothing.
use Rattle.std.proofs.Common.{List, ap, arith, length, take, take_all, ℕ, ◌-◌, ◌∙◌, ◌≡◌, ◌≤◌}
use Rattle.std.proofs.Math.Nat.{sub-zero}
use Rattle.std.proofs.Math.Seq.{take-length}
use Rattle.splice.proofs.Laws.Put.{put_as}
use Rattle.text.specs.Gather.{piece, kept}
use Rattle.text.proofs.bytes.put_bytes.Goals as goal

all_kept : (room : ℕ) (s : List ℕ) → length s ≤ room → kept room 0 (length s) s ≡ s
unfolding kept piece
all_kept room s h =
    ap (λ (n : ℕ). take room (take n s)) (sub-zero (length s)) ∙ ap (take room) (take-length s) ∙ take_all room s h

pub returns : goal.returns
returns c =
    let a = c.args in
    put_as _ _ (all_kept (length a.out.now - a.at) a.bytes.now (omega arith)) c.keep.ensures
