-- A whole look in a buffer that the longest one fits, handed over.
use mathlib.Core.Path.{◌≡◌}
use mathlib.Core.List.{List}
use Prim.Native.Nat.{ℕ, ◌≤◌}
use lib.ListN.{length}
use Rattle.sizes.specs.Sizes.{longest_look}
use Rattle.layout.specs.Step.{Step}
use Rattle.std.specs.Prelude.{Ok}
use Rattle.grammar.specs.Layout.{Bytes}
use Rattle.store.specs.Written.{Written}
use Rattle.store.specs.Check.{place_of, check}
use Rattle.store.specs.Fields.{bytes_in}
use Rattle.store.specs.Puts.{PutsTo}
use Rattle.store.specs.Deliver.{answer, DeliversTo}
use Rattle.store.specs.Laws.Deliver.{delivered_answer, delivered_output}
use Rattle.look.specs.declared.Look.{Look}
use Rattle.look.specs.Look.{TableLook02}
use Rattle.look.specs.Values as values
use Rattle.look.specs.Laws.Bounds.{look_most}
use Rattle.look_write.specs.Writing.{file, writing, Wrote}

pub wrote : (x : Look) (v : Written) {s b b' out out' : List ℕ} {r : Step} → length b ≡ longest_look → Bytes s
    → PutsTo TableLook02 s (values.fields x) b (Ok 0) b' r → DeliversTo b' r out (answer v) out' → Wrote x s out v out'
unfolding writing file bytes_in
wrote x v {s} {b} long bs put gives =
    let f = values.fields x in
    let room : place_of (check TableLook02 s f 0) ≤ length b = rw long (look_most.is s f 0 put.fit) in
    (delivered_answer TableLook02 s f room put gives, delivered_output TableLook02 s f room put gives, record { is = put.fit }, bs)
