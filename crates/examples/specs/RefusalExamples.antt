-- Refusals by computation: for each number that bytes can get, the place too, and what is just not refused so. The expected lines are those
-- that the reader of bench/ (its program `line`), which follows the papers and shares no definition with these crates, prints for the same
-- bytes. So a number or a place that is changed in the code and in the rules together does not prove any more.
use Rattle.std.specs.Prelude.{◌≡◌, refl, List, [], ◌∷◌, ◌++◌, map, ℕ, zero, suc, length, take, drop, set}
use Rattle.grammar.specs.Layout.{little, big, digits}
use Rattle.grammar.specs.Laws.Member.AcceptedExample.{member, Line, refused_at, accepted_with, line}

-- ---- parts

repeated : ℕ → List ℕ → List ℕ
repeated zero bs = []
repeated (suc n) bs = bs ++ repeated n bs

-- the beginning of a group, with two categories in it
group : List ℕ
unfolding member
group = take 24 (drop 736 member)

-- the beginning of a Value with one argument, which is a Value again
holder : List ℕ
holder = 0x58 ∷ 0x00 ∷ 0x00 ∷ 0x00 ∷ 0x00 ∷ 0x01 ∷ 0x00 ∷ 0x00 ∷ 0x00 ∷ 0x00 ∷ 0x00 ∷ 0x00 ∷ 0x00 ∷ []

leaf : ℕ → List ℕ
unfolding member
leaf n = set (take 24 (drop 834 member)) 16 n

-- a dimension with four leaves
four : List ℕ
unfolding member leaf
four = set (take 26 (drop 808 member)) 22 0x04 ++ leaf 0 ++ leaf 1 ++ leaf 2 ++ leaf 3

-- the member with this text for the continuation in PrintSettings, whose length stands at 555, and this count for its region
continued : ℕ → List ℕ → List ℕ
unfolding member
continued n text = take 555 (set member 537 n) ++ digits big 4 (length text) ++ text ++ drop 559 member

-- the same table in version 1: areas without margins, empty regions of TableSettings and Formats
without_margins : ℕ → List ℕ → List ℕ
without_margins zero bs = []
without_margins (suc n) bs = take 40 bs ++ without_margins n (drop 56 bs)

version_1 : List ℕ
unfolding member without_margins
version_1 =
    set (take 73 member) 2 0x01 ++ without_margins 8 (take 448 (drop 73 member)) ++ take 38 (drop 521 member) ++ digits little 4 0 ++ take 25 (drop 616 member)
    ++ digits little 4 0 ++ drop 706 member

-- with so many bytes 00 before the Value of its last cell
with_zeros : ℕ → List ℕ
unfolding version_1 repeated
with_zeros n = take 689 version_1 ++ repeated n (0x00 ∷ []) ++ drop 689 version_1

-- ---- the table

examples : List (List ℕ × Line)
unfolding member repeated group holder four continued version_1 with_zeros
examples =
    -- 2, a field that does not fit: the first; the version; the last; a region; a string, in a region that ends before it
    ([], refused_at 2 0)
    ∷ (take 5 member, refused_at 2 2)
    ∷ (take 939 member, refused_at 2 936)
    ∷ (set member 540 0x01, refused_at 2 537)
    ∷ (set member 537 0x11, refused_at 2 555)
    -- 3, a fixed byte, an area index, the three bytes of a category, a fixed number
    ∷ (set member 0 0x00, refused_at 3 0)
    ∷ (set member 73 0x02, refused_at 3 73)
    ∷ (set member 747 0x02, refused_at 3 745)
    ∷ (set member 752 0x00, refused_at 3 752)
    -- 4, the version; in version 1 a ValueMod that begins 31, here the title's
    ∷ (set member 2 0x02, refused_at 4 2)
    ∷ (set version_1 39 0x31, refused_at 4 39)
    -- in version 1 an Area has no margins, and a cell a run of up to five bytes 00
    ∷ (set member 2 0x01, refused_at 3 113)
    ∷ (with_zeros 6, refused_at 3 694)
    -- 5, a bool of the header, and of a dimension
    ∷ (set member 6 0x02, refused_at 5 6)
    ∷ (set member 725 0x02, refused_at 5 725)
    -- 6, the content of Borders ends early
    ∷ (set member 521 0x0d, refused_at 6 537)
    -- 7, the number of dimensions (17 is too many, 16 is not), of footnotes, of cells
    ∷ (set member 706 0x11, refused_at 7 706)
    ∷ (set member 706 0x10, refused_at 3 887)
    ∷ (set (set member 69 0x01) 70 0x01, refused_at 7 69)
    ∷ (set (set member 902 0x01) 903 0x10, refused_at 7 902)
    -- 7, a category that is too deep, and one that is not; so a Value
    ∷ (take 736 member ++ repeated 8 group, refused_at 7 928)
    ∷ (take 736 member ++ repeated 7 group, refused_at 2 904)
    ∷ (take 39 member ++ repeated 8 holder, refused_at 7 143)
    ∷ (take 39 member ++ repeated 7 holder, refused_at 2 130)
    -- 7, the product 4 ^ 16, where no byte is left
    ∷ (take 706 member ++ (0x10 ∷ 0x00 ∷ 0x00 ∷ 0x00 ∷ []) ++ repeated 16 four, refused_at 7 2662)
    -- 8, a leaf index not below n; one that was seen before; of the second dimension; not before the dimension ends
    ∷ (set member 776 0x02, refused_at 8 776)
    ∷ (set member 776 0x00, refused_at 8 800)
    ∷ (set member 874 0x00, refused_at 8 874)
    ∷ (take 800 (set member 776 0x02), refused_at 2 800)
    ∷ (take 808 (set member 776 0x02), refused_at 8 776)
    -- 9, the counts do not add up, at the first; not before the third is read; before an entry is
    ∷ (set member 882 0x01, refused_at 9 882)
    ∷ (take 893 (set member 882 0x01), refused_at 2 890)
    ∷ (take 894 (set member 882 0x01), refused_at 9 882)
    -- 9, an entry that is no dimension; one that is repeated; as soon as it is read
    ∷ (set member 894 0x02, refused_at 9 894)
    ∷ (set member 898 0x01, refused_at 9 898)
    ∷ (take 898 (set member 894 0x02), refused_at 9 894)
    -- 10, a cell index not below the product, in its first byte and in its last; one that was seen before; as soon as it is read
    ∷ (set member 906 0x04, refused_at 10 906)
    ∷ (set member 913 0x01, refused_at 10 906)
    ∷ (set member 906 0x00, refused_at 10 923)
    ∷ (take 914 (set member 906 0x04), refused_at 10 906)
    -- 11, a byte after the last section, and after the optional 01
    ∷ (member ++ (0x02 ∷ []), refused_at 11 940)
    ∷ (member ++ (0x01 ∷ 0x01 ∷ []), refused_at 11 941)
    -- 18, a zero byte in a string, lowest byte first and highest first: the only one, the last one; as soon as the string is read
    ∷ (set member 75 0x01, refused_at 18 75)
    ∷ (take 80 (set member 75 0x01), refused_at 18 75)
    ∷ (continued 0x13 (0x00 ∷ []), refused_at 18 555)
    ∷ (continued 0x14 (0x41 ∷ 0x00 ∷ []), refused_at 18 555)
    -- not before 2 for the same string: it does not fit in the member, in its region
    ∷ (take 79 (set member 75 0x01), refused_at 2 75)
    ∷ (continued 0x12 (0x00 ∷ []), refused_at 2 555)
    -- no refusal: the member, and with the optional 01; with a string
    ∷ (member, accepted_with 2 5 2)
    ∷ (member ++ (0x01 ∷ []), accepted_with 2 5 2)
    ∷ (continued 0x13 (0x41 ∷ []), accepted_with 2 5 2)
    -- of version 1
    ∷ (version_1, accepted_with 2 5 2)
    ∷ (with_zeros 5, accepted_with 2 5 2)
    ∷ []

refusals : map (λ (e : List ℕ × Line). line e.0) examples ≡ map (λ (e : List ℕ × Line). e.1) examples
unfolding examples member line
refusals = refl
