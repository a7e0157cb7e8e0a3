-- The counters of a table, and its state; sums over lists of nothings.
use Rattle.fx_plain.proofs.Words.{◌≡◌, sum_by-cons, sum_by, List, [], arith, ap, ◌∙◌, replicate, slice_index_or, suc, zero, ℕ, ◌∷◌, ◌≤◌, false}
use Rattle.fx_plain.proofs.Words.{length, length-append, refl, Option, None, IsSettled, files_in_order, files_of, identities_of, Contents, IsTable}
use Rattle.fx_plain.proofs.Words.{IsCounted, state_of, slot_at, node_at, file_at, removed_at, is_leaving, is_retired, file_count_of, removed_count_of}
use Rattle.fx_plain.proofs.Words.{take, add-one, length-replicate, Gone, Node, All-from_get_or, sum_by-le, sum_by_more, take_all}
use Rattle.fx_plain.proofs.Cells.{read_default}

pub sum_of_nothings : {X : Type 0} (f : X → ℕ) (xs : List X) (d : X) → ((i : ℕ) → f (slice_index_or xs i d) ≡ 0) → sum_by f xs ≡ 0
sum_of_nothings f xs d each =
    let most = sum_by-le f 0 xs (All-from_get_or (λ x. f x ≤ 0) xs d (λ i lt. let one = each i in omega arith)) in omega arith

pub sum_by-replicate : {X : Type 0} (f : X → ℕ) (n : ℕ) (x : X) → f x ≡ 0 → sum_by f (replicate n x) ≡ 0
sum_by-replicate f n x nothing = sum_of_nothings f (replicate n x) x (λ i. ap f (read_default n i x) ∙ nothing)

-- an element of a list whose sum is 0
pub nothing_in_sum : {X : Type 0} (f : X → ℕ) (xs : List X) (d : X) → f d ≡ 0 → sum_by f xs ≡ 0 → (i : ℕ) → f (slice_index_or xs i d) ≡ 0
nothing_in_sum f [] d nothing all i = nothing
nothing_in_sum f (x ∷ xs) d nothing all zero = omega (arith, sum_by-cons f x xs)
nothing_in_sum f (x ∷ xs) d nothing all (suc i) = nothing_in_sum f xs d nothing (omega (arith, sum_by-cons f x xs)) i

-- The counters of a table, and its state.
-- a node without a removed file
abbrev pub IsQuiet : Node → Type 0
IsQuiet node = ((number : ℕ) → removed_at number node ≡ None) × (is_leaving node ≡ false) × (is_retired node ≡ false)

pub quiet_is : (node : Node) → removed_count_of node ≡ 0 → IsQuiet node
quiet_is node none = grind arith

pub not_removed : (n : ℕ) (node : Node) → removed_at n node ≡ None → removed_count_of node ≡ 0
not_removed n node is = grind arith

-- a table without holds and removed files is settled
pub settled_by_counts : {c : Contents} {full held removed : ℕ} → IsCounted c full held removed → held ≡ 0 → removed ≡ 0 → IsSettled (state_of c)
settled_by_counts {c} k no_holds none_removed = grind (arith, nothing_in_sum)

pub no_holds : {c : Contents} {full held removed : ℕ} → IsCounted c full held removed → IsSettled (state_of c) → held ≡ 0
no_holds {c} k s = k.all_holds ∙ sum_of_nothings (λ n. n) c.holds 0 s.unheld

pub none_removed : {c : Contents} {full held removed : ℕ} → IsCounted c full held removed → IsSettled (state_of c) → removed ≡ 0
none_removed {c} k s = k.all_removed ∙ sum_of_nothings removed_count_of c.nodes Gone (λ n. not_removed n (node_at c.nodes n) (s.closed n))

-- the file that a slot names is at that slot
one_file : {c : Contents} (slot : ℕ) → IsTable c → (x : Option ℕ) → slot_at c.slots slot ≡ x
    → length (identities_of (file_at c.nodes x)) ≡ file_count_of x
one_file slot t x is = grind arith

files_upto : {c : Contents} → IsTable c → (n : ℕ) → n ≤ length c.slots
    → length (files_in_order (state_of c).at n) ≡ sum_by file_count_of (take n c.slots)
files_upto t zero le = refl
files_upto {c} t (suc n) le =
    let rest = files_upto t n (omega arith) in let one = one_file n t (slot_at c.slots n) refl in
    let both = length-append (files_in_order (state_of c).at n) (identities_of ((state_of c).at n)) in
    let more = rw add-one at (sum_by_more file_count_of c.slots n None (omega arith)) in omega arith

-- the files of a table are as many as its full slots
pub length-files_of : {c : Contents} → IsTable c → length (files_of (state_of c)) ≡ sum_by file_count_of c.slots
length-files_of {c} t = files_upto t (length c.slots) (omega arith) ∙ ap (sum_by file_count_of) (take_all (length c.slots) c.slots (omega arith))

-- a table of empty slots
pub sparse_keeps : {slots : List (Option ℕ)} {n : ℕ} {nodes : List Node} {holds : List ℕ} → slots ≡ replicate n None → n ≤ 256
    → nodes ≡ [] → holds ≡ [] → IsTable (record { slots = slots; range = (0, n); nodes = nodes; holds = holds; numbers = n })
    × IsCounted (record { slots = slots; range = (0, n); nodes = nodes; holds = holds; numbers = n }) 0 0 0
sparse_keeps {n} slots_are few no_nodes no_hold = grind (arith, length-replicate, read_default, sum_by-replicate)
