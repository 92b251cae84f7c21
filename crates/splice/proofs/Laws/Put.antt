-- Parts written one after another are their whole written at once: the laws by which the proofs of functions that write join the parts.
-- Assumes nothing.
use Rattle.std.specs.Prelude.{List, [], ◌++◌, ◌≡◌, ℕ, ◌+◌, ◌≤◌, length}
use Rattle.std.proofs.Common.{sym, ap, subst, ◌∙◌, add_assoc, add-zero, length-append}
use Rattle.splice.specs.Splice.{splice}
use Rattle.splice.specs.Put.{Put, PutWithin}
use Rattle.splice.proofs.Laws.Splice.{splice_nothing, splice_after}

joined_length : (at : ℕ) (a b : List ℕ) → at + length a + length b ≡ at + length (a ++ b)
joined_length at a b = add_assoc at (length a) (length b) ∙ ap (λ (n : ℕ). at + n) (sym (length-append a b))

pub put_nothing : (l : List ℕ) (at : ℕ) → Put l at [] l at
put_nothing l at = record { place_is = sym (add-zero at); list_is = sym (splice_nothing l at) }

pub put_as : (l : List ℕ) (at : ℕ) {a b m : List ℕ} {r : ℕ} → a ≡ b → Put l at a m r → Put l at b m r
put_as l at {a} {b} {m} {r} e h = subst (λ (w : List ℕ). Put l at w m r) e h

pub put_within_as :
    (l : List ℕ) (at : ℕ) {a b m : List ℕ} {r limit : ℕ} → a ≡ b → PutWithin l at a m r limit → PutWithin l at b m r limit
put_within_as l at {a} {b} {m} {r} {limit} e h = subst (λ (w : List ℕ). PutWithin l at w m r limit) e h

pub put_then : (l : List ℕ) (at : ℕ) (a b : List ℕ) {m n : List ℕ} {p r : ℕ} → at ≤ length l → Put l at a m p → Put m p b n r
    → Put l at (a ++ b) n r
put_then l at a b {m} {n} {p} {r} h f g =
    record {
      place_is = g.place_is ∙ ap (λ (k : ℕ). k + length b) f.place_is ∙ joined_length at a b;
      list_is =
          g.list_is
          ∙ ap (λ (t : List ℕ). splice t p b) f.list_is
          ∙ ap (λ (k : ℕ). splice (splice l at a) k b) f.place_is
          ∙ splice_after l at a b h;
    }
