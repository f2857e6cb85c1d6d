-- Fields stored in a buffer one after the other, and the count of a region stored before its content.
use Rattle.std.specs.Prelude.{◌≡◌, List, [], ◌++◌, ℕ, ◌+◌, ◌≤◌, length, take, drop}
use Rattle.std.proofs.Common.{sym, ap, ◌∙◌, append_assoc, add-zero, arith, length-append, length-take, length-drop, take-append-drop, take_at, drop_at, drop-drop, length-take-le, take-take}
use Rattle.std.proofs.lemmas.List.{take-append-le}
use Rattle.store.specs.Put.{stored}

pub stored_none : (b : List ℕ) (at : ℕ) → stored b at [] ≡ b
unfolding stored
stored_none b at = rw add-zero (take-append-drop at b)

pub stored_length : (b : List ℕ) (at : ℕ) (xs : List ℕ) → at + length xs ≤ length b → length (stored b at xs) ≡ length b
unfolding stored
stored_length b at xs h = simp (length-append, length-take, length-drop) (omega arith)

-- one after the other
pub stored_more : (b : List ℕ) (at : ℕ) (xs ys : List ℕ) → at + length xs + length ys ≤ length b
    → stored (stored b at xs) (at + length xs) ys ≡ stored b at (xs ++ ys)
unfolding stored
stored_more b at xs ys h =
    let n : ℕ = at + length xs in
    let front : List ℕ = take at b ++ xs in
    let long : length front ≡ n = length-append (take at b) xs ∙ ap (λ (n : ℕ). n + length xs) (length-take-le at b (omega arith)) in
    let e : take at b ++ (xs ++ drop n b) ≡ front ++ drop n b = sym (append_assoc (take at b) xs (drop n b)) in
    let back : drop (n + length ys) (front ++ drop n b) ≡ drop (n + length ys) b =
    sym (drop-drop (length ys) n (front ++ drop n b)) ∙ ap (drop (length ys)) (drop_at front (drop n b) n long) ∙ drop-drop (length ys) n b in
    let sum : at + (length xs + length ys) ≡ n + length ys = omega arith in
    rw (e, take_at front (drop n b) n long, back, length-append, sum) (simp append_assoc)

-- a field in front of one that is there already
pub stored_before : (b : List ℕ) (at : ℕ) (xs ys : List ℕ) (n : ℕ) → length xs ≡ n → at + n + length ys ≤ length b
    → stored (stored b (at + n) ys) at xs ≡ stored b at (xs ++ ys)
unfolding stored
stored_before b at xs ys n e h =
    let m : ℕ = at + n in
    let rest : List ℕ = ys ++ drop (m + length ys) b in
    let short : length (take m b) ≡ m = length-take-le m b (omega arith) in
    let first : take at (take m b ++ rest) ≡ take at b =
    take-append-le at (take m b) rest (omega arith) ∙ take-take at m b (omega arith) in
    let back : drop (at + n) (take m b ++ rest) ≡ rest = drop_at (take m b) rest m short in
    let sum : at + (n + length ys) ≡ m + length ys = omega arith in
    rw (first, e, back, length-append, e, sum) (simp append_assoc)
