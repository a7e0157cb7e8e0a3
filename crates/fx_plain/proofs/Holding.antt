-- A file gets a hold, loses one, or is retired.
use Rattle.fx_plain.proofs.Words.{◌≡◌, ◌≢◌, ℕ, ◌+◌, ◌-◌, ◌<◌, ◌≤◌, ◌^◌, Bool, true, false, [], length, refl, sym, ap, ◌∙◌}
use Rattle.fx_plain.proofs.Words.{slice_index, slice_index_or, slice_set, Option, Some, None, arith, length-set, get_or-set_same, get_or-set_other}
use Rattle.fx_plain.proofs.Words.{Closed, File, Look, Release, Steps, changed_at, after, Leads, close_of, ◌▷▷◌, Contents, IsTable, IsCounted}
use Rattle.fx_plain.proofs.Words.{state_of, slot_at, node_at, file_at, placed_at, leaving, removed_at, is_fresh, is_leaving, is_retired, identity_in}
use Rattle.fx_plain.proofs.Words.{node_after_retirement, removed_count_of, At, Leaving, Retired, Gone, numbered, identity_of, closed_by_retirement}
use Rattle.fx_plain.proofs.Words.{EndsHold, Node, get_or-le-sum_by, sum_by-set, ◌▷◌, closed_by_release, All-from_get_or, sum_by-le}
use Rattle.fx_plain.proofs.Cells.{each_set, unchanged, written, inside_of, IsOff, inside_of-At, inside_told, leaving_is, retired_is, state_of-holds}
use Rattle.fx_plain.proofs.Cells.{state_of-nodes, leaving-nodes, same_file}

-- the file at a slot
pub at_is : (c : Contents) {slot number : ℕ} {file : Closed} → slot_at c.slots slot ≡ Some number → node_at c.nodes number ≡ At slot file
    → (state_of c).at slot ≡ Some (numbered number file)
at_is c {number} at named = ap (file_at c.nodes) at ∙ ap (placed_at number) named

-- a table, with one more hold of a file
abbrev pub held_more : Contents → ℕ → Contents
held_more c n = record c { holds = slice_set c.holds n (slice_index c.holds n + 1) }

abbrev pub held_less : Contents → ℕ → Contents
held_less c n = record c { holds = slice_set c.holds n (slice_index c.holds n - 1) }

-- a table with another number of holds of a file keeps its invariant, unless a retired file has no
-- hold left
module _ (c : Contents) {n : ℕ} (h : ℕ) (inside : n < length c.holds) where
  holds_keep : IsTable c → (is_retired (node_at c.nodes n) ≡ true → 0 < h) → IsTable (record c { holds = slice_set c.holds n h })
  holds_keep t some =
      let held = λ (m : ℕ). each_set (λ q x. is_retired (node_at c.nodes q) ≡ true → 0 < x) c.holds n h 0 inside some m (λ _. t.held m) in
      assumption (length-set c.holds n h ∙ t.same_numbers, held)

  holds_counted : {full held removed : ℕ} (held' : ℕ) → IsCounted c full held removed → h < 2 ^ 32 → held' + slice_index c.holds n ≡ held + h
      → IsCounted (record c { holds = slice_set c.holds n h }) full held' removed
  holds_counted held' k fits sum = let changed = sum_by-set (λ n. n) c.holds n h 0 inside in let all = k.all_holds in record {
    full_slots = k.full_slots;
    all_holds = omega arith;
    small_holds = λ m. each_set (λ _ x. x < 2 ^ 32) c.holds n h 0 inside fits m (λ _. k.small_holds m);
    all_removed = k.all_removed;
  }

pub look_steps : {c : Contents} {slot n : ℕ} {file : Closed} → IsTable c → slot < length c.slots → slot_at c.slots slot ≡ Some n
    → node_at c.nodes n ≡ At slot file → Steps (state_of c) (Look slot ((state_of c).at slot)) (state_of (held_more c n))
look_steps {c} {slot} {n} t inside at named =
    let here : n < length c.holds = let lt = inside_of-At c.nodes n named in let e = t.same_numbers in omega arith in (
      (inside, refl),
      state_of-holds c _ here ∙ sym (ap (λ (x : Option File). after (state_of c) (Look slot x)) (at_is c at named)),
    )

-- the holds of a table with fewer than 2^32 nodes fit 64 bits
pub few_held : {c : Contents} {full held removed : ℕ} → IsTable c → IsCounted c full held removed → held + 1 < 2 ^ 64
few_held {c} t k =
    let all = sum_by-le (λ n. n) 4294967295 c.holds
    (All-from_get_or (λ x. x ≤ 4294967295) c.holds 0 (λ i lt. let one = k.small_holds i in omega arith)) in
    let len = t.same_numbers in let few = t.few_nodes in let h = k.all_holds in omega arith

-- a node with a removed file is at no slot
off_told : (told : Node → Bool) (node : Node) → ((slot : ℕ) (file : Closed) → told (At slot file) ≡ false) → told node ≡ true → IsOff node
off_told told node none going slot file is = let e : false ≡ true = sym (none slot file) ∙ ap told (sym is) ∙ going in cc

-- a table with another node, and one without the file of a number
abbrev pub with_node : Contents → ℕ → Node → Contents
with_node c n node = record c { nodes = slice_set c.nodes n node }

abbrev pub closed_at : Contents → ℕ → Contents
closed_at c n = with_node c n Gone

-- a write at a node that no slot names keeps the invariant
keeps_node : {c : Contents} {n : ℕ} (v : Node) → IsTable c → IsOff (node_at c.nodes n) → n < length c.nodes
    → (is_retired v ≡ true → 0 < slice_index c.holds n) → is_fresh v ≡ false → IsTable (with_node c n v)
keeps_node {c} {n} v t off inside still unfresh = record {
  own = t.own;
  used = λ m lt. each_set (λ _ x. is_fresh x ≡ false) c.nodes n v Gone inside unfresh m (λ _. t.used m lt);
  few_slots = t.few_slots;
  range_inside = t.range_inside;
  few_nodes = rw (length-set c.nodes n v) t.few_nodes;
  same_numbers = t.same_numbers ∙ sym (length-set c.nodes n v);
  placed = λ u m at. let there = t.placed u m at in
      (there.0, get_or-set_other c.nodes n m v Gone (λ (same : m ≡ n). off u there.0 (ap (node_at c.nodes) (sym same) ∙ there.1)) ∙ there.1);
  held = λ m. each_set (λ q x. is_retired x ≡ true → 0 < slice_index c.holds q) c.nodes n v Gone inside still m (λ _. t.held m);
}

-- the counts, where a node's file is gone
closed_counted : {c : Contents} {n full held removed : ℕ} → IsCounted c full held removed → n < length c.nodes
    → removed_count_of (node_at c.nodes n) ≡ 1 → IsCounted (closed_at c n) full held (removed - 1)
closed_counted {c} {n} k inside one = grind (arith, sum_by-set)

module _ {c : Contents} (n : ℕ) (t : IsTable c) (going : leaving c n ≡ true) where
  pub was_leaving : (file : Closed) × (node_at c.nodes n ≡ Leaving file)
  was_leaving = leaving_is (node_at c.nodes n) going

  pub node_inside : n < length c.nodes
  node_inside = inside_told is_leaving c.nodes n refl going

  off : IsOff (node_at c.nodes n)
  off = off_told is_leaving (node_at c.nodes n) (λ _ _. refl) going

  -- a file that nobody holds is closed as it is retired
  pub retire_closes : slice_index c.holds n ≡ 0 → Leads (state_of c) (close_of (closed_by_retirement c n)) (state_of (closed_at c n))
  retire_closes unheld =
      grind (arith, was_leaving, Gone, node_inside, off, state_of-nodes Gone t node_inside off, unchanged (state_of c).fresh n false (ap is_fresh (sym was_leaving.1)))

  -- a held file stays, and is retired
  abbrev pub retired_at : Contents
  retired_at = with_node c n (Retired was_leaving.0)

  pub retires : node_after_retirement (node_at c.nodes n) ≡ Retired was_leaving.0
  retires = ap node_after_retirement was_leaving.1

  pub retire_waits : slice_index c.holds n ≢ 0 → Leads (state_of c) (close_of (closed_by_retirement c n)) (state_of retired_at)
  retire_waits held = grind (arith, was_leaving, node_inside, off, unchanged, state_of-nodes (Retired was_leaving.0) t node_inside off)

  pub retire_close_keeps : {full held removed : ℕ} → IsCounted c full held removed
      → IsTable (closed_at c n) × IsCounted (closed_at c n) full held (removed - 1)
  retire_close_keeps k = (
    keeps_node Gone t off node_inside (λ (is : false ≡ true). cc) refl,
    closed_counted k node_inside (ap removed_count_of was_leaving.1),
  )

  pub retire_wait_keeps : {full held removed : ℕ} → IsCounted c full held removed → slice_index c.holds n ≢ 0
      → IsTable retired_at × IsCounted retired_at full held removed
  retire_wait_keeps k some_hold =
      let changed = sum_by-set removed_count_of c.nodes n (Retired was_leaving.0) Gone node_inside in
      let was : removed_count_of (node_at c.nodes n) ≡ 1 = ap removed_count_of was_leaving.1 in let r = k.all_removed in (
        keeps_node (Retired was_leaving.0) t off node_inside (λ _. omega arith) refl,
        record { full_slots = k.full_slots; all_holds = k.all_holds; small_holds = k.small_holds; all_removed = omega arith },
      )

-- one hold is released
module _ {c : Contents} (n : ℕ) (t : IsTable c) (some_hold : 0 < slice_index c.holds n) where
  less_inside : n < length c.holds
  less_inside = inside_of c.holds n 0 (λ (zero_is : slice_index_or c.holds n 0 ≡ 0). omega arith)

  state_of-less : (f : File) → f.number ≡ n → state_of (held_less c n) ≡ after (state_of c) (Release f)
  state_of-less f same = rw same (state_of-holds c (slice_index c.holds n - 1) less_inside)

  less_counted : {full held removed : ℕ} → IsCounted c full held removed → IsCounted (held_less c n) full (held - 1) removed
  less_counted {held} k =
      let h = k.all_holds in let small = k.small_holds n in let one = get_or-le-sum_by (λ n. n) c.holds n 0 less_inside in
      holds_counted c _ less_inside (held - 1) k (omega arith) (omega arith)

  -- a file that isn't retired, or has another hold, stays open
  less_keeps : (is_retired (node_at c.nodes n) ≡ true → 1 < slice_index c.holds n) → IsTable (held_less c n)
  less_keeps others = holds_keep c (slice_index c.holds n - 1) less_inside t (λ is. let more = others is in omega arith)

  -- nothing comes out
  stays : closed_by_release c n ≡ None → IsTable (held_less c n) → EndsHold c (held_less c n) n None
  stays none sound = record {
    answer = sym (ap identity_of none);
    steps = λ f same. rw none ((tt, rw same some_hold), state_of-less f same);
    numbers = refl;
    sound = sound;
    leaving = refl;
  }

  pub more_releases : {left : ℕ} → left + 1 ≡ slice_index c.holds n → left ≢ 0 → EndsHold c (held_less c n) n None
  more_releases was some_left = grind (arith, stays, less_keeps)

  pub open_releases : is_retired (node_at c.nodes n) ≡ false → EndsHold c (held_less c n) n None
  open_releases unretired = grind (arith, stays, less_keeps)

  module _ (last : slice_index c.holds n ≡ 1) (closed : is_retired (node_at c.nodes n) ≡ true) where
    was_retired : (file : Closed) × (node_at c.nodes n ≡ Retired file)
    was_retired = retired_is (node_at c.nodes n) closed

    retired_inside : n < length c.nodes
    retired_inside = inside_told is_retired c.nodes n refl closed

    retired_off : IsOff (node_at c.nodes n)
    retired_off = off_told is_retired (node_at c.nodes n) (λ _ _. refl) closed

    -- the table without the last hold and without the file
    abbrev pub let_go : Contents
    let_go = closed_at (held_less c n) n

    not_leaving : leaving c n ≡ false
    not_leaving = ap is_leaving was_retired.1

    removed_is : (state_of c).removed n ≡ Some (numbered n was_retired.0)
    removed_is = ap (removed_at n) was_retired.1

    closing : closed_by_release c n ≡ Some (numbered n was_retired.0)
    closing = rw (last, not_leaving) removed_is

    let_go_steps : (f : File) → f.number ≡ n → Leads (state_of c) ([] ▷ Release f ▷▷ close_of (closed_by_release c n)) (state_of let_go)
    let_go_steps f same =
        let unheld : changed_at (state_of c).holds f.number ((state_of c).holds f.number - 1) n ≡ 0 = grind arith in rw closing (
          ((tt, rw same some_hold), (removed_is, unheld)),
          λ i. record (state_of c) {
            at = λ slot. same_file n Gone t retired_off slot i;
            removed = written removed_at c.nodes Gone Gone retired_inside i;
            holds = (written (λ q x. x) c.holds (slice_index c.holds n - 1) 0 less_inside
                ∙ ap (λ (k : ℕ). changed_at (state_of c).holds k ((state_of c).holds k - 1)) (sym same)) i;
            fresh = (written (λ q node. is_fresh node) c.nodes Gone Gone retired_inside
                ∙ unchanged (state_of c).fresh n false (ap is_fresh (sym was_retired.1))) i;
          },
        )

    let_go_keeps : IsTable let_go
    let_go_keeps = Rattle.fx_plain.proofs.Holding.less_keeps n
        (keeps_node Gone t retired_off retired_inside (λ (is : false ≡ true). cc) refl) some_hold
        (λ is. let e : false ≡ true = ap is_retired (sym (get_or-set_same c.nodes n Gone Gone retired_inside)) ∙ is in cc)

    pub let_go_releases : {out : Option Closed} → out ≡ identity_in (node_at c.nodes n) → EndsHold c let_go n out
    let_go_releases is = record {
      answer = is ∙ ap identity_in was_retired.1 ∙ sym (ap identity_of closing);
      steps = let_go_steps;
      numbers = refl;
      sound = let_go_keeps;
      leaving = leaving-nodes c Gone retired_inside ∙ unchanged (leaving c) n false (sym not_leaving);
    }

    pub let_go_counted : {full held removed : ℕ} → IsCounted c full held removed → IsTable let_go × IsCounted let_go full (held - 1) (removed - 1)
    let_go_counted k = (let_go_keeps, closed_counted (less_counted k) retired_inside (ap removed_count_of was_retired.1))
