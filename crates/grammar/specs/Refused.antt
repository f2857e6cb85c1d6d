-- Which members are refused: document 01's table, "Refusal numbers", and its paragraph "Order". No reader is in it: what stands before the
-- failing field are valid trees, and the failing field is what the bytes are. `Demand3` says that `read_member` refuses exactly so.
use Rattle.std.specs.Prelude.{List, ◌∷◌, ℕ, ◌+◌, ◌*◌, ◌≤◌, ◌<◌, length}
use Rattle.sizes.specs.Sizes.{member_bytes, node_words, cell_words}
use Rattle.grammar.specs.Layout.{Tree, spell}
use Rattle.grammar.specs.Fails.{Spells, Runs}
use Rattle.grammar.specs.Rule.{Rule, plain, ◌▸▸◌, numbered, Kept, Breaks}
use Rattle.grammar.specs.Sections.{HeaderStart, Front}
use Rattle.grammar.specs.Rules.{dimensions_rule, places_of, axes_rule, cells_rule}
use Rattle.grammar.specs.Member.{Body, Member, nodes, cells, MemberDerivation, AsDemanded}
use Rattle.grammar.specs.Records.{dims_of}

-- Where document 01's rows stand. (`Fails`, `Numbers` and `Rules` are files beside this one.)
--
-- No.  When                                                    Place                           Stated
-- 1    member too long                                         0                               too_long, below
-- 2    a field doesn't fit in the input or its region          first byte of the field         Fails: number-short, string-short, region-short
-- 3    a fixed byte, fixed number, mark or area index differs  the field                       Fails: number-wrong, run-alone; Numbers: refusal
-- 4    version neither 1 nor 3                                 version                         Fails: number-wrong; Numbers: refusal
--      in version 1 a ValueMod that begins 31 (document 02)    that 31                         Fails: number-wrong; Numbers: refusal
-- 5    a bool neither 0 nor 1                                  the byte                        Fails: number-wrong; Numbers: refusal
-- 6    a region's content ends early                           first byte left in it           Fails: bytes-left
-- 7    a limit passed: dimensions, footnotes, cells            the count                       Fails: number-wrong; Numbers: refusal
--      the 4,097th category                                    its first byte                  Rules: categoryRule
--      a Value or category that is too deep                    its first byte                  Fails: too-deep
--      the product                                             first axis count, before        Rules: axesRule
-- 8    leaf index not below n, or seen before                  that leaf index                 Rules: dimensionRule
-- 9    axis counts don't add up                                first count, after all three    Rules: countsRule
--      an entry is no dimension or is repeated                 the entry, as soon as read      Rules: entryRule
-- 10   cell index not below the product, or seen before        that index, as soon as read     Rules: cellRule
-- 11   bytes left at the end                                   first of them                   left, below
-- 12   node area shorter than 7 words a node                   0                               few-node-words, below
-- 13   cell area shorter than 3 words a cell                   0                               few-cell-words, below
-- 18   a zero byte inside a string (document 02, T-06)         its first length byte           Fails: string-wrong

-- the member's sections in their order, each with its tests: `Front` is the Header from its version on, to Formats, which the layout tests alone
unfoldable pub body_rule : (version : ℕ) → Rule (Body version)
body_rule version =
    plain (Front version) ▸▸ (λ _. dimensions_rule version) ▸▸ (λ t. axes_rule version (dims_of version t.1))
    ▸▸ (λ t. cells_rule version (places_of version (dims_of version t.0.1)))

unfoldable pub member_rule : Rule Member
member_rule = plain HeaderStart ▸▸ (λ _. numbered (λ version. body_rule version))

-- Refused bs n p: the bytes get refusal n, at the place p. "Order: 1, then the file from front to back, ... then 11"
pub data Refused (bs : List ℕ) : ℕ → ℕ → Type 0 where
  too_long : member_bytes < length bs → Refused bs 1 0
  inside : {n p : ℕ} → length bs ≤ member_bytes → Breaks Member member_rule bs 0 n p → Refused bs n p
  -- after the last section an optional 01, and then a byte
  left : {t : Tree Member} {r : List ℕ} {k b : ℕ} {r' : List ℕ} → length bs ≤ member_bytes → Spells Member bs t r → Kept member_rule t → Runs 0x01 1 r k (b ∷ r')
      → Refused bs 11 (length (spell Member t) + k)

-- RefusedWith bs node-length cell-length n p: the bytes, with lent areas of those lengths, get refusal n at the place p. ".. then 11, 12, 13"
pub data RefusedWith (bs : List ℕ) (node_length cell_length : ℕ) : ℕ → ℕ → Type 0 where
  by_bytes : {n p : ℕ} → Refused bs n p → RefusedWith bs node_length cell_length n p
  few_node_words : (m : MemberDerivation bs) → AsDemanded m.tree → node_length < node_words * nodes m.tree → RefusedWith bs node_length cell_length 12 0
  few_cell_words : (m : MemberDerivation bs) → AsDemanded m.tree → node_words * nodes m.tree ≤ node_length → cell_length < cell_words * length (cells m.tree)
      → RefusedWith bs node_length cell_length 13 0
