-- One member of a list, read among the others, and a whole call.
use mathlib.Core.Path.{◌≡◌, refl, sym, ap, ◌∙◌}
use mathlib.Core.Bool.{true, false}
use mathlib.Core.List.{List, [], ◌∷◌, ◌++◌, append-nil}
use Prim.Native.Nat.{ℕ, ◌+◌, ◌*◌, ◌-◌, ◌≤◌}
use native.Mathlib.Omega.{arith}
use lib.ListN.{length, take, drop, drop_of_length-le, length-drop}
use lib.Seq.{length-take-le, take-length, drop-length, drop-drop}
use lib.Dec.{leb, eqb}
use borrow.Author.Tests.{le-leb, leb-true, eqb-true}
use Rattle.sizes.specs.Sizes.{answer_words, members_answer_words, most_members}
use Rattle.layout.specs.Step.{Step}
use Rattle.std.specs.Prelude.{Ok}
use Rattle.sizes.specs.Basics.{pick}
use Rattle.layout.specs.Words.{word32}
use Rattle.layout.specs.Laws.Words.{word_same}
use Rattle.answer.specs.declared.Answer.{Answer}
use Rattle.store.specs.Puts.{PutsWordsTo}
use Rattle.store.specs.Laws.Puts.{with_room}
use Rattle.members.specs.Members.{members, list_refusal, member_at, share_of, with_share, InShare, joined, cut, nodes_then, cells_then}
use Rattle.members.specs.Laws.Reading.{list_short}
use Rattle.members.specs.Laws.Shares.{share_length, lent, back}
use Rattle.member_words.specs.MemberWords.{answer_words_of}
use Rattle.members_words.specs.Members.{call_words, words_at, call_answer_of, MembersRead}
use Rattle.members_words.specs.Laws.MembersRead.{OneRead, AllRead}

-- words that fill a part
filled : (n : ℕ) (xs b : List ℕ) {b' : List ℕ} {r : Step} → length xs ≡ n → length b ≡ n → PutsWordsTo xs b (Ok 0) b' r → b' ≡ xs
unfolding pick
filled n xs b e l x =
    let t : leb n (length b) ≡ true = le-leb n (length b) (omega arith) in
    let f = rw t at (with_room n xs b e t x).1 in
    f ∙ rw (drop_of_length-le b {i = n} (omega arith)) (append-nil xs)

pub one_read : (buffer list : List ℕ) (i : ℕ) (answers nodes cells : List ℕ) {a b : ℕ} → a ≡ answer_words * i → b ≡ answer_words * i + answer_words
    → answer_words * i + answer_words ≤ length answers → (x : Answer) {nodes' cells' : List ℕ} → InShare (member_at buffer list i) (members list) i nodes cells x nodes' cells'
    → {part : List ℕ} {r : Step} → PutsWordsTo (answer_words_of (word32 x.place) x) (take (b - a) (drop a answers)) (Ok 0) part r
    → length (answer_words_of (word32 x.place) x) ≡ answer_words
    → OneRead buffer list i answers nodes cells (take a answers ++ (part ++ drop (b - a) (drop a answers))) nodes' cells'
one_read buffer list i answers nodes cells pa pb h x s {part} w l =
    let p : word32 x.place ≡ x.place = word_same x.place (omega (arith, s.place)) in
    let share = lent answer_words i answers pa pb in
    let is = filled answer_words (answer_words_of x.place x) (share_of answer_words i answers) (rw p at l) (share_length answer_words i answers h) (rw (share, p) at w) in
    record { answer = x; shares = s; words = back answer_words i answers pa pb part ∙ ap (with_share answer_words i answers) is; width = rw p at l }

-- ---- a call

module _ (buffer list answers nodes cells : List ℕ) where
  abbrev n : ℕ
  n = members list

  abbrev words : ℕ
  words = members_answer_words + answer_words * n

  -- the words of the list's own answer, and after them the area that its members' words go to
  begins : (x : ℕ) {answers₁ : List ℕ} {r : Step} → members_answer_words ≤ length answers → PutsWordsTo (x ∷ 0 ∷ []) answers (Ok 0) answers₁ r
      → answers₁ ≡ x ∷ 0 ∷ drop members_answer_words answers
  unfolding pick
  begins x l p =
      let t : leb members_answer_words (length answers) ≡ true = le-leb members_answer_words (length answers) l in
      rw t at (with_room members_answer_words (x ∷ 0 ∷ []) answers refl t p).1

  -- r is what the list itself gets
  module _ {r : ℕ} (is : r ≡ list_refusal list) (z : eqb r 0 ≡ true) where
    pub not_refused : list_refusal list ≡ 0
    not_refused = sym is ∙ eqb-true r 0 z

    pub words_below : words ≤ members_answer_words + answer_words * most_members
    words_below = omega (arith, list_short list not_refused)

    -- every member is read
    pub members_read : leb words (length answers) ≡ true → {answers₁ : List ℕ} {q : Step} → PutsWordsTo (0 ∷ 0 ∷ []) answers (Ok 0) answers₁ q
        → {part nodes' cells' : List ℕ} → AllRead buffer list (take (length answers₁ - members_answer_words) (drop members_answer_words answers₁)) nodes cells part nodes' cells'
        → MembersRead buffer list answers nodes cells words
        (take members_answer_words answers₁ ++ (part ++ drop (length answers₁ - members_answer_words) (drop members_answer_words answers₁))) nodes' cells'
    unfolding pick call_words call_answer_of nodes_then cells_then cut
    members_read t {answers₁} p {part} x =
        let e = not_refused in
        let l = leb-true words (length answers) t in
        let b = begins 0 (omega arith) p in
        let d = drop members_answer_words answers in
        let k : length answers₁ - members_answer_words ≡ length d = omega (arith, ap length b) in
        let y = rw (k, b, take-length d) at x in
        let all : part ≡ joined (words_at buffer list (length nodes) (length cells)) n ++ drop (answer_words * n) d = y.words.is in
        record {
          words = rw (e, t) (refl, rw (k, b, drop-length d, all, append-nil, drop-drop));
          node_area = rw (e, t) y.areas.node_area.is;
          cell_area = rw (e, t) y.areas.cell_area.is;
          widths = λ _ _. y.words.widths;
        }

    -- the answer has no room
    pub members_unread : leb words (length answers) ≡ false → MembersRead buffer list answers nodes cells 0 answers nodes cells
    unfolding pick call_words
    members_unread t =
        let e = not_refused in
        record {
          words = rw (e, t) (refl, refl);
          node_area = rw (e, t);
          cell_area = rw (e, t);
          widths = λ room. let h = rw (e, t) at room in let one : ◌≡◌ {A = ℕ} 0 1 = cc in absurd (omega arith);
        }

  -- room for the words of the members
  pub room_after : leb words (length answers) ≡ true → (answers₁ : List ℕ) → length answers₁ ≡ length answers
      → answer_words * n ≤ length (take (length answers₁ - members_answer_words) (drop members_answer_words answers₁))
  room_after t answers₁ e =
      let l = leb-true words (length answers) t in
      let d = length-drop members_answer_words answers₁ in
      rw (length-take-le (length answers₁ - members_answer_words) (drop members_answer_words answers₁) (omega arith)) (omega arith)

  -- the list is refused
  module _ {r : ℕ} (is : r ≡ list_refusal list) (z : eqb r 0 ≡ false) where
    none_read : {A : Type 0} → list_refusal list ≡ 0 → A
    none_read e = let h = rw (is, e) at z in let one : ◌≡◌ {A = ℕ} 0 1 = cc in absurd (omega arith)

    pub list_refused : leb members_answer_words (length answers) ≡ true → {answers' : List ℕ} {q : Step} → PutsWordsTo (r ∷ 0 ∷ []) answers (Ok 0) answers' q
        → MembersRead buffer list answers nodes cells members_answer_words answers' nodes cells
    unfolding pick call_words call_answer_of nodes_then cells_then
    list_refused t p =
        let f = rw is at z in
        record {
          words = rw (f, t) (refl, rw is at (begins r (leb-true members_answer_words (length answers) t) p));
          node_area = rw (f, t);
          cell_area = rw (f, t);
          widths = λ _. none_read;
        }

    pub list_unread : leb members_answer_words (length answers) ≡ false → MembersRead buffer list answers nodes cells 0 answers nodes cells
    unfolding pick call_words
    list_unread t = let f = rw is at z in record { words = rw (f, t) (refl, refl); node_area = rw (f, t); cell_area = rw (f, t); widths = λ _. none_read }
