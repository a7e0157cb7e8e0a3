-- The places of a call's steps.
use Rattle.fx_lasting.proofs.Words.{◌≡◌, ◌<◌, ◌≤◌, ℕ, arith, Start, LastingTable, list_place, slot_place, hold_place, node_place, word_of}
use Rattle.fx_lasting.proofs.Words.{hold_word_of, nodes_of, slots_of, HasPlace, IsAtWork, Sat, LastingPass, IsPassOfTable, Option, Closed, List, Bool}
use Rattle.fx_lasting.proofs.Words.{cond, le-ltb, length, pass_in, get_elem?, some, ◌∙◌, sym, ap, groups_in, group_place, range_at_start, IsGroup}
use Rattle.fx_lasting.proofs.Words.{tag_place, number_place, tag_word_of, number_word_of, MOST_NODES, few_groups}
use Rattle.fx_lasting.proofs.Frames.{alone_cases}
use Rattle.fx_lasting.proofs.Running.{its_inside, stock_is}

-- a slot of the table, as its rule names it
pub slot_low : (t : LastingTable) {slot : ℕ} → slot < t.size → slot < slots_of t.table.shared.key
slot_low t {slot} l = omega (arith, l, t.same_size)

-- the word of a slot is one of the table
pub slot_inside : (t : LastingTable) {slot i : ℕ} → slot < t.size → i ≡ slot_place slot → i < t.table.shared.table_id.words
slot_inside t {slot} l is = omega (arith, l, is, t.words)

-- the word of the list that has a pass's bit is one of the table
pub list_inside : (t : LastingTable) {p i : ℕ} → p ≤ 1024 → i ≡ list_place p → i < t.table.shared.table_id.words
list_inside t {p} few is = omega (arith, few, is, t.words)

pub same_groups : (t : LastingTable) → groups_in t.range_len ≡ groups_in (range_at_start t.table.shared.key).1
same_groups t = ap (λ (z : ℕ × ℕ). groups_in z.1) t.same_range

pub its_group : (t : LastingTable) {g : ℕ} → g < groups_in t.range_len → IsGroup t.table.shared.key g
its_group t {g} l = omega (arith, l, same_groups t)

-- the word of a group is one of the table
pub group_word : (t : LastingTable) {g i : ℕ} → g < groups_in t.range_len → i ≡ group_place g → i < t.table.shared.table_id.words
group_word t {g} l is = omega (arith, l, is, (few_groups t.range_len (omega (arith, t.range_inside, t.few_slots))), t.words)

-- the hold word of a pass is one of the table
pub hold_inside : (t : LastingTable) {p i : ℕ} → p ≤ t.table.shared.key.passes → i ≡ hold_place t.size p → i < t.table.shared.table_id.words
hold_inside t {p} l is = omega (arith, l, is, t.words, t.key.0)

pub hold_word : (t : LastingTable) {p q i : ℕ} → q ≡ p → i ≡ hold_place t.size p → i ≡ hold_word_of t.table.shared.key q
hold_word t {p} {q} same is = omega (arith, same, is, t.same_size)

-- the word of a node is one of the table
pub node_inside : (t : LastingTable) {n i : ℕ} → n < nodes_of t.table.shared.key → i ≡ node_place t.size t.passes n
    → i < t.table.shared.table_id.words
node_inside t {n} l is = omega (arith, l, is, t.words)

pub node_word : (t : LastingTable) (n : ℕ) {i : ℕ} → i ≡ node_place t.size t.passes n → i ≡ word_of t.table.shared.key n
node_word t n is = omega (arith, is, t.same_size, t.key.0)

-- the words of a node's label are words of the table
pub tag_inside : (t : LastingTable) {n i : ℕ} → n < nodes_of t.table.shared.key → i ≡ tag_place t.size t.passes n
    → i < t.table.shared.table_id.words
tag_inside t {n} l is = omega (arith, l, is, t.words, t.same_size, t.key.0)

pub tag_word : (t : LastingTable) (n : ℕ) {i : ℕ} → i ≡ tag_place t.size t.passes n → i ≡ tag_word_of t.table.shared.key n
tag_word t n is = omega (arith, is, t.same_size, t.key.0)

pub number_inside : (t : LastingTable) {n i : ℕ} → n < nodes_of t.table.shared.key → i ≡ number_place t.size t.passes n
    → i < t.table.shared.table_id.words
number_inside t {n} l is = omega (arith, l, is, t.words, t.same_size, t.key.0)

pub number_word : (t : LastingTable) (n : ℕ) {i : ℕ} → i ≡ number_place t.size t.passes n → i ≡ number_word_of t.table.shared.key n
number_word t n is = omega (arith, is, t.same_size, t.key.0)

-- the node whose place is with the pass
pub place_inside : {k : Start} {p n : ℕ} {x : Option Closed} {m : Sat} → IsAtWork k p m → HasPlace n x m → n < nodes_of k
place_inside h1 has = grind (arith, its_inside, alone_cases)

-- a table has few nodes
pub few_nodes : (t : LastingTable) → nodes_of t.table.shared.key ≤ MOST_NODES
few_nodes t = grind arith

-- the stock of a pass that installs has as many nodes as the table has passes
pub long_stock : {k : Start} {p : ℕ} {m : Sat} → IsAtWork k p m → p ≤ k.installing → length (pass_in m).stock ≡ k.passes
long_stock {k} {p} {m} at installs = ap (length {A = ℕ}) (stock_is at) ∙ (at.stock.count ∙ ap (λ (b : Bool). cond b 0 k.passes) (le-ltb k.installing p installs))

pub as_long : (t : LastingTable) {p : ℕ} {m : Sat} {stock : List ℕ} → IsAtWork t.table.shared.key p m → p ≤ t.installing → stock ≡ (pass_in m).stock
    → length stock ≡ t.passes
as_long t {p} at installs is = ap (length {A = ℕ}) is ∙ (long_stock at (omega (arith, installs, t.key.1)) ∙ sym t.key.0)

-- the entry where a pass that installs begins its search
pub begins_at : (t : LastingTable) {p : LastingPass} → IsPassOfTable t p → p.number ≤ t.installing → p.next_entry < t.passes
begins_at t {p} fits installs = omega (arith, fits.seated.next (omega (arith, installs, t.key.1)), t.key.0)

-- a node of the stock is one of the table
pub stock_inside : (k : Start) (p entry node : ℕ) (m : Sat) → IsAtWork k p m → get_elem? (pass_in m).stock entry ≡ some node → node < nodes_of k
stock_inside k p entry node m at is = at.stock.inside entry node (ap (λ (l : List ℕ). get_elem? l entry) (sym (stock_is at)) ∙ is)
