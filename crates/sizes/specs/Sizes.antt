-- The numbers of document 01 that code and specification share, each under one name; `src/lib.rt` has the same ones for the code.
use Rattle.std.specs.Prelude.{ℕ, ◌+◌, ◌*◌, ◌-◌, ◌^◌}

-- ---- document 01, "Sizes we accept"

-- "Member at most 1,048,576 bytes."
abbrev pub member_bytes : ℕ
member_bytes = 1048576

-- "Dimensions 16."
abbrev pub most_dimensions : ℕ
most_dimensions = 16

-- "Footnotes 256."
abbrev pub most_footnotes : ℕ
most_footnotes = 256

-- "Category nodes 4,096 in the whole member."
abbrev pub most_nodes : ℕ
most_nodes = 4096

-- "Cells 4,096."
abbrev pub most_cells : ℕ
most_cells = 4096

-- "Values nested 8 deep, the outermost being 1."
abbrev pub value_depth : ℕ
value_depth = 8

-- so many are left inside the outermost
abbrev pub below_value : ℕ
below_value = value_depth - 1

-- "Categories nested 8 deep likewise."
abbrev pub category_depth : ℕ
category_depth = 8

-- "Product of all n at most 4,294,967,295."
abbrev pub most_places : ℕ
most_places = 2 ^ 32 - 1

-- ---- document 01, "What the caller gets"

-- "Node, 6 words"; "Add a seventh word to each node record" (document 02, T-07)
abbrev pub node_words : ℕ
node_words = 7

-- "Cell, 3 words"
abbrev pub cell_words : ℕ
cell_words = 3

-- "for each dimension the place and length of its name, its n and its first node"
abbrev pub dimension_words : ℕ
dimension_words = 4

-- the words of a node record: "number of the parent node", "place and length of the name Value", "leaf index or number of direct children",
-- and "how many nodes it contains at any depth, itself included" (document 02, T-07)
abbrev pub node_parent : ℕ
node_parent = 2

abbrev pub name_place : ℕ
name_place = 3

abbrev pub name_length : ℕ
name_length = 4

abbrev pub leaf_index : ℕ
leaf_index = 5

abbrev pub node_size : ℕ
node_size = 6

-- the word of a dimension's entry that is its n
abbrev pub dimension_n : ℕ
dimension_n = 2

-- "number of the parent node or 4,294,967,295"
abbrev pub no_parent : ℕ
no_parent = 2 ^ 32 - 1

-- from the end of a leaf's name to its index: three bytes and the number 2 of four bytes (003, Categories)
abbrev pub name_to_index : ℕ
name_to_index = 7

-- areas that suffice for the records of every member
abbrev pub node_area : ℕ
node_area = node_words * most_nodes

abbrev pub cell_area : ℕ
cell_area = cell_words * most_cells

-- the entries of all dimensions
abbrev pub dimension_area : ℕ
dimension_area = dimension_words * most_dimensions

-- an answer as words: eight numbers, the entries of the dimensions and the axis order
abbrev pub answer_words : ℕ
answer_words = 8 + dimension_area + most_dimensions

-- what a Value says as words: the refusal, its place, the length, the bytes 00, and 18 words of the form; of an Argument
abbrev pub value_answer_words : ℕ
value_answer_words = 22

abbrev pub argument_answer_words : ℕ
argument_answer_words = 5

-- ---- document 02, T-01

-- the answer for one leaf as words: the refusal, its place, nodes, cells, and the totals
abbrev pub total_answer_words : ℕ
total_answer_words = 13

-- the answer for all leaves of a dimension: the refusal, its place, nodes, cells, leaves; and for each leaf its refusal, place and totals
abbrev pub totals_answer_words : ℕ
totals_answer_words = 5

abbrev pub leaf_total_words : ℕ
leaf_total_words = 11

-- ---- document 02, T-04

-- "for m cells at most 48 × m comparisons and stores of an index together"
abbrev pub repeat_steps : ℕ
repeat_steps = 48

-- ---- document 02, T-09

-- "for up to 64 members"
abbrev pub most_members : ℕ
most_members = 64

-- the answer for a list of members, before those of its members: the refusal and its place
abbrev pub members_answer_words : ℕ
members_answer_words = 2

-- ---- document 02, T-11

-- a cell's position as words: the refusal, its place, layer, row, column; and the index of a position: the refusal, its place, the index
abbrev pub position_answer_words : ℕ
position_answer_words = 5

abbrev pub index_answer_words : ℕ
index_answer_words = 3

-- ---- the interface for C

-- its version, which the header has too: 2 since a node record has seven words, 3 since an old look has the words of a new one (our rule)
abbrev pub abi : ℕ
abi = 3

-- ---- looks

-- "the four lengths in document 01 become 674, 713, 2,778 and 3,160 bytes" (document 02, T-02)
abbrev pub longest_look : ℕ
longest_look = 3160

-- a look as words; with the refusal and its place before them
abbrev pub look_words : ℕ
look_words = 262

abbrev pub look_answer_words : ℕ
look_answer_words = 2 + look_words

-- the place of a continuation that stands in no file (document 02, T-10; our rule)
abbrev pub no_place : ℕ
no_place = 2 ^ 32 - 1

-- the refusal, its place and the length of a look that was written
abbrev pub write_answer_words : ℕ
write_answer_words = 3
