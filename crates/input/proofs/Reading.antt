-- What reads give of known bytes, one after the other.
use Rattle.std.proofs.Common.{◌≡◌, ℕ, ◌+◌, List, ◌++◌, None, Some, sym, ap, subst, ◌∙◌, append_assoc, take, drop}
use Rattle.std.proofs.Math.Seq.{take-add}
use Rattle.std.specs.declared.option.Option.{Option}
use Rattle.std.specs.Io.KnownBytes.{Consumes}

-- two reads give what stands one after the other
pub consumed_twice : (a b c : Option (List ℕ)) (xs ys : List ℕ) → Consumes a b xs → Consumes b c ys → Consumes a c (xs ++ ys)
consumed_twice None b c xs ys p q = tt
consumed_twice (Some x) None c xs ys p q = absurd p
consumed_twice (Some x) (Some y) None xs ys p q = absurd q
consumed_twice (Some x) (Some y) (Some z) xs ys p q = p ∙ ap (λ l. xs ++ l) q ∙ sym (append_assoc xs ys z)

-- the front of a buffer grows by what is read after it
pub filled_on : (a b c : Option (List ℕ)) (old new : List ℕ) (k n : ℕ) → take k new ≡ take k old → Consumes a b (take k old)
    → Consumes b c (take n (drop k new)) → Consumes a c (take (k + n) new)
filled_on a b c old new k n front before read =
    let joined = take-add k n new ∙ ap (λ l. l ++ take n (drop k new)) front in
    subst (Consumes a c) (sym joined) (consumed_twice a b c (take k old) (take n (drop k new)) before read)
