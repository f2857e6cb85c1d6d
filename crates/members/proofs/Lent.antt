-- What is read with a share of each area.
use mathlib.Core.Path.{◌≡◌, ap, ◌∙◌}
use mathlib.Core.List.{List, ◌++◌}
use Prim.Native.Nat.{ℕ, ◌+◌, ◌*◌, ◌-◌, ◌/◌, ◌≤◌, ◌<◌}
use lib.ListN.{length, take, drop}
use Rattle.sizes.specs.Sizes.{member_bytes}
use Rattle.grammar.specs.Layout.{Tree}
use Rattle.grammar.specs.Laws.Layout.Read.{Got}
use Rattle.answer.specs.declared.Answer.{Answer}
use Rattle.grammar.specs.Member.{Member}
use Rattle.answer.specs.Answer.{Delivered}
use Rattle.members.specs.Members.{with_share, share_answer, node_share_at, cell_share_at, InShare}
use Rattle.members.specs.Laws.Shares.{share_inside, share_length, lent, back}

pub in_share : (y : Got (Tree Member)) (n i : ℕ) (nodes cells : List ℕ) {a b c d : ℕ} → i < n → a ≡ length nodes / n * i → b ≡ length nodes / n * i + length nodes / n
    → c ≡ length cells / n * i → d ≡ length cells / n * i + length cells / n → {r : Answer} {ns cs : List ℕ}
    → Delivered y (take (b - a) (drop a nodes)) (take (d - c) (drop c cells)) r ns cs → r.place ≤ member_bytes
    → InShare y n i nodes cells r (take a nodes ++ (ns ++ drop (b - a) (drop a nodes))) (take c cells ++ (cs ++ drop (d - c) (drop c cells)))
unfolding share_answer node_share_at cell_share_at
in_share y n i nodes cells h pa pb pc pd {r} {ns} {cs} x p =
    let w = length nodes / n in
    let v = length cells / n in
    let ln = lent w i nodes pa pb in
    let lc = lent v i cells pc pd in
    let kn = share_length w i nodes (share_inside (length nodes) n i h) in
    let kc = share_length v i cells (share_inside (length cells) n i h) in
    record {
      answer = x.answer ∙ rw (ln, lc, kn, kc);
      node_area = back w i nodes pa pb ns ∙ ap (with_share w i nodes) (x.node_area ∙ rw (ln, lc, kc));
      cell_area = back v i cells pc pd cs ∙ ap (with_share v i cells) (x.cell_area ∙ rw (ln, lc, kn));
      place = p;
    }
