use Rattle.std.proofs.Common.{◌≡◌, refl, ap, ◌<◌, ◌^◌, ℕ, Result, Ok, Err, arith, le-ltb}
use Rattle.std.proofs.lemmas.Result.{err_from_is_err_and}
use Rattle.std.specs.Result.{MatchResult, IsErrAnd}
use Rattle.refusals.specs.declared.Refusal.{Refusal}
use Rattle.refusals.specs.Numbers.{by_number}
use Rattle.table.specs.Laws.InMember.{in_member}
use Rattle.cells.specs.declared.CellRefused.{CellRefused}
use Rattle.cells.specs.declared.CellRefused.TheVariants.{Index, Value}
use Rattle.cells.specs.CellRead.{value_read, cell_read}
use Rattle.cells.specs.Laws.Cells.{no_index, not_below, done}
use Rattle.cells.proofs.cell.cell.Goals as goal

-- q is r with its refusal in that variant
abbrev In : (Refusal → CellRefused) → Result ℕ Refusal → Result ℕ CellRefused → Type 0
In v r q = MatchResult r (λ p. q ≡ Ok p) (λ e. IsErrAnd q (λ d. d ≡ v e))

in_err : (v : Refusal → CellRefused) (r : Result ℕ Refusal) (q : Result ℕ CellRefused) {d : CellRefused} → In v r q → q ≡ Err d → (e : Refusal) × (r ≡ Err e) × (d ≡ v e)
in_err v (Ok p) q m h = absurd (let z : ◌≡◌ {A = ℕ} 0 1 = cc in omega arith)
in_err v (Err e) q m h = let s = err_from_is_err_and q m in (e, refl, cc (s.1, s.2))

in_ok : (v : Refusal → CellRefused) (r : Result ℕ Refusal) (q : Result ℕ CellRefused) {p : ℕ} → In v r q → q ≡ Ok p → r ≡ Ok p
in_ok v (Ok p) q m h = cc
in_ok v (Err e) q m h = let s = err_from_is_err_and q m in absurd (let z : ◌≡◌ {A = ℕ} 0 1 = cc s.1 in omega arith)

same : (r : Result ℕ Refusal) (q : Result ℕ CellRefused) → In Value r q → cell_read q ≡ value_read (by_number r)
same (Ok p) q m = rw m
same (Err e) q m = let s = err_from_is_err_and q m in rw (s.1, s.2)

pub returns-in_err-place : goal.returns-in_err-place
returns-in_err-place c =
    let a = c.args in
    let m = a.member in
    let small : a.places < 2 ^ 32 = omega arith in
    let p = err_from_is_err_and c.from_residual.result c.from_residual.ensures.1 in
    let i = in_err Index c.any.result c.map_err.result c.map_err.ensures.cases c.in_err-place.was in
    rw (p.1, p.2, i.2) (no_index _ m.bytes.now (in_member m.are_bytes) m.short a.at a.places a.j small a.cells.now c.any.ensures.low (ap by_number i.1))

pub returns-then-places-x : goal.returns-then-places-x
returns-then-places-x c =
    let a = c.args in
    let m = a.member in
    let small : a.places < 2 ^ 32 = omega arith in
    let o = in_ok Index c.any.result c.map_err.result c.map_err.ensures.cases c.in_ok-place.was in
    not_below _ m.bytes.now (in_member m.are_bytes) m.short a.at a.places a.j small a.cells.now c.any.ensures.low (ap by_number o) c.peek-x.ensures (le-ltb _ _ c.if-places-x.true)

pub returns : goal.returns
returns c =
    let a = c.args in
    let m = a.member in
    let q = c.requires in
    let small : a.places < 2 ^ 32 = omega arith in
    let o = in_ok Index c.any.result c.map_err.result c.map_err.ensures.cases c.in_ok-place.was in
    rw (same c.record.result c.map_err-2.result c.map_err-2.ensures.cases)
    (done _ m.bytes.now (in_member m.are_bytes) m.short a.at a.places a.j small a.cells.now c.any.ensures.low (ap by_number o) c.peek-x.ensures c.if-places-x.false q.1 q.0 q.2 c.record.ensures)
