-- whether length and bytes fit
use Rattle.std.proofs.Common.{◌≡◌, refl, sym, ◌∙◌, Bool, true, false, List, ◌++◌, ℕ, ◌+◌, ◌≤◌, ◌<◌, length, length-append, leb, leb-true, leb-false, arith}
use Rattle.std.specs.Prelude.{min}
use Rattle.std.proofs.lemmas.Result.{err_from_is_err_and}
use Rattle.grammar.specs.Layout.{Order, digits}
use Rattle.layout.specs.Reads.{order}
use Rattle.grammar.specs.Laws.Layout.{digits_length}
use Rattle.store.specs.Laws.Puts.{stores_kept, stores_refused, stores_short, stores_both}
use Rattle.store.proofs.write.string_field.Goals as goal

module _ (o : Order) (w : ℕ) (text b : List ℕ) (at m : ℕ) {room : Bool} (e : m ≡ min w 8) (r : room ≡ leb (at + m + length text) (length b)) where
  full : room ≡ true → at + length (digits o (min w 8) (length text)) + length text ≤ length b
  full t = rw (digits_length o (min w 8) (length text)) (omega (arith, leb-true (at + m + length text) (length b) (sym r ∙ t)))

  too_long : room ≡ false → length b < at + length (digits o (min w 8) (length text) ++ text)
  too_long t = rw (length-append, digits_length) (omega (arith, leb-false (at + m + length text) (length b) (sym r ∙ t)))

pub returns-in_err-at : goal.returns-in_err-at
returns-in_err-at c =
    let p = err_from_is_err_and c.from_residual.result c.from_residual.ensures.1 in
    rw (p.1, p.2, c.in_err-at.was) (stores_kept _ _ _ refl)

pub returns-in-Some : goal.returns-in-Some
returns-in-Some c =
    let e = c.in-Some.ensures in
    rw (c.in_ok-at.was, e.0) (stores_refused _ _ _ (rw e.0 at e.1) refl)

pub returns-then-fits : goal.returns-then-fits
returns-then-fits c =
    let a = c.args in
    rw (c.in_default.ensures, c.in_ok-at.was) (stores_both c.in_ok-at.at refl
    (full (order a.high) a.w a.text.now a.buf.now c.in_ok-at.at c.width.result c.width.ensures c.fits.ensures c.if-fits.true)
    (rw c.in_ok-at.was at c.number-next.ensures) c.raw.ensures)

pub returns : goal.returns
returns c =
    let a = c.args in
    rw (c.in_default.ensures, c.in_ok-at.was) (stores_short _ _ _ refl refl
    (too_long (order a.high) a.w a.text.now a.buf.now c.in_ok-at.at c.width.result c.width.ensures c.fits.ensures c.if-fits.false))
