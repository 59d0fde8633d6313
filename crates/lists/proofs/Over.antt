-- Laws of `over`: its length, and how a writer's pieces, each written into what is left of the buffer, join to one.
use Prim.Native.Nat.{ℕ, ◌+◌, ◌-◌, ◌≤◌, ◌<◌}
use mathlib.Core.Path.{◌≡◌, refl, ap, ◌∙◌}
use mathlib.Core.List.{List, [], ◌∷◌, ◌++◌, append_assoc, append-nil}
use native.Mathlib.Omega.{arith}
use lib.ListN.{length, take, drop, set, get_or, length-append, length-drop, drop_of_length-le}
use lib.Seq.{take_at, drop_at, drop-drop, take_all, set_at, drop-cons}
use borrow.Rule.Slice.PartMut.{put_mid}
use Rattle.lists.specs.Over.{over}

pub over_none : (xs : List ℕ) → xs ≡ over [] xs
unfolding over
over_none xs = refl

pub over_length : (ws xs : List ℕ) → length ws ≤ length xs → length (over ws xs) ≡ length xs
unfolding over
over_length ws xs h = simp (length-append, length-drop) (omega arith)

-- after ws was written, a callee was lent what is left and wrote vs there
pub over_tail : (ws vs xs out part : List ℕ) (at : ℕ) → length ws ≡ at → out ≡ over ws xs
    → part ≡ over vs (take (length out - at) (drop at out)) → put_mid at (length out - at) out part ≡ over (ws ++ vs) xs
unfolding over
over_tail ws vs xs out part at la eo ep =
    let rest : List ℕ = drop (length ws) xs in
    let front : take at out ≡ ws = rw eo (take_at ws rest at la) in
    let back : drop at out ≡ rest = rw eo (drop_at ws rest at la) in
    let size : length rest ≤ length out - at = omega (arith, ap length eo, length-append ws rest) in
    let lent : take (length out - at) (drop at out) ≡ rest = rw back (take_all (length out - at) rest size) in
    let past : drop (length out - at) (drop at out) ≡ [] = rw back (drop_of_length-le rest size) in
    rw (front, past, ep, lent) (simp (append-nil, append_assoc, length-append, drop-drop))

-- after ws was written, one element more is stored
pub over_set : (ws xs out : List ℕ) (at v : ℕ) → length ws ≡ at → out ≡ over ws xs → at < length xs
    → set out at v ≡ over (ws ++ (v ∷ [])) xs
unfolding over
over_set ws xs out at v la eo h =
    let rest : List ℕ = drop (length ws) xs in
    let size : 0 < length rest = omega (arith, length-drop (length ws) xs) in
    rw (eo, drop-cons rest 0 0 size, set_at ws (get_or rest 0 0) (drop 1 rest) v at la) (simp (append_assoc, length-append, drop-drop))
