-- What is answered of fields stands no further than after the last of their bytes, for every layout.
use Rattle.std.specs.Prelude.{◌≡◌, refl, List, ℕ, ◌+◌, ◌≤◌, length}
use Rattle.std.proofs.Common.{arith, length-append}
use Rattle.std.proofs.lemmas.List.{length-replicate}
use Rattle.layout.specs.Step.{Step}
use Rattle.std.specs.Prelude.{Ok, Err}
use Rattle.grammar.specs.Layout.{Layout, spell_all, spell_fill, spell}
use Rattle.grammar.specs.Laws.Layout.{digits_length}
use Rattle.store.specs.Fields.{Fields, resolve_all, resolve_in, resolve, bytes_in}
use Rattle.store.specs.Check.{place_of, check}
use Rattle.store.specs.Unwritable.{Unwritable, number_wrong, number_then, text_long, text_outside, text_wrong, first, second, here, later, run_long, run_then, content, optional_content, open_content, free_outside}
use Rattle.store.specs.Laws.Exactly.{writable_exactly, unwritable_exactly}

refused_within : {s : List ℕ} {g : Layout} {f : Fields g} {at n p : ℕ} → Unwritable s g f at n p → p ≤ at + length (bytes_in g s f)
unfolding bytes_in spell spell_all spell_fill resolve resolve_all resolve_in
refused_within (number_wrong e) = omega arith
refused_within (number_then e u) = simp (length-append, digits_length) (omega (arith, refused_within u))
refused_within (text_long h) = omega arith
refused_within (text_outside h l) = omega arith
refused_within (text_wrong h i e) = omega arith
refused_within (first u) = simp length-append (omega (arith, refused_within u))
refused_within (second v u) = simp length-append (omega (arith, refused_within u))
refused_within (here u) = simp length-append (omega (arith, refused_within u))
refused_within (later v u) = simp length-append (omega (arith, refused_within u))
refused_within (run_long h) = omega arith
refused_within (run_then h u) = simp (length-append, length-replicate) (omega (arith, refused_within u))
refused_within (content u) = simp (length-append, digits_length) (omega (arith, refused_within u))
refused_within (optional_content u) = simp (length-append, digits_length) (omega (arith, refused_within u))
refused_within (open_content u) = simp (length-append, digits_length) (omega (arith, refused_within u))
refused_within (free_outside v l) = simp (length-append, digits_length) (omega arith)

pub within : (g : Layout) (s : List ℕ) (f : Fields g) (at : ℕ) → place_of (check g s f at) ≤ at + length (bytes_in g s f)
within g s f at = go (check g s f at) refl
  where
    go : (c : Step) → check g s f at ≡ c → place_of c ≤ at + length (bytes_in g s f)
    go (Ok p) e = omega (arith, ((writable_exactly g s f at p).0 e).1)
    go (Err (n, p)) e = refused_within ((unwritable_exactly g s f at n p).0 e)
