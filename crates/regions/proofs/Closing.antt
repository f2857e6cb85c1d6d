-- What a region gives, by what its content gave in the bytes that the region is of.
use Rattle.std.proofs.Common.{◌≡◌, refl, ℕ, ◌+◌, min, Ok, Err, eqb}
use Rattle.layout.specs.Step.{Step}
use Rattle.sizes.specs.Basics.{pick}
use Rattle.grammar.specs.Layout.{open_ended}
use Rattle.layout.specs.Reads.{filled, close}
use Rattle.regions.specs.Placed.{placed}

pub filled_refused : (b e : ℕ) (i : Step) {r p : ℕ} → Err (r, p) ≡ placed b e i → Err (r, p) ≡ filled b e i
filled_refused b e (Ok q) h = absurd cc
filled_refused b e (Err (n, q)) h = h

pub filled_at : (b e : ℕ) (i : Step) {p : ℕ} → Ok p ≡ placed b e i → pick (eqb p e) (Ok e) (Err (6, p)) ≡ filled b e i
filled_at b e (Ok q) {p} h = let m : p ≡ min (b + q) e = cc in rw m refl
filled_at b e (Err (n, q)) h = absurd cc

pub open_refused : (b e : ℕ) (i : Step) {r p : ℕ} → Err (r, p) ≡ placed b e i → Err (r, p) ≡ close open_ended (Ok (b, e)) i
unfolding close
open_refused b e (Ok q) h = absurd cc
open_refused b e (Err (n, q)) h = h

pub open_at : (b e : ℕ) (i : Step) {p : ℕ} → Ok p ≡ placed b e i → Ok e ≡ close open_ended (Ok (b, e)) i
unfolding close
open_at b e (Ok q) h = refl
open_at b e (Err (n, q)) h = absurd cc
