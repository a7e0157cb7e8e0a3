-- A file leaves its slot, and another one may come in its place.
use Rattle.fx_plain.proofs.Words.{◌≡◌, ◌≢◌, ℕ, ◌+◌, ◌-◌, ◌<◌, ◌≤◌, Bool, true, false, List, length, refl, sym, ap, subst, ◌∙◌, slice_index_or}
use Rattle.fx_plain.proofs.Words.{slice_set, ◌^◌, Option, Some, None, arith, length-set, get_or-set_same, get_or-set_other, get_or_default, Closed}
use Rattle.fx_plain.proofs.Words.{File, Put, Take, changed_at, with_removed, Contents, IsTable, IsCounted, AllPlaced, state_of, slot_at, node_at}
use Rattle.fx_plain.proofs.Words.{file_at, placed_at, leaving, removed_at, is_fresh, is_leaving, is_retired, node_after_removal, file_count_of}
use Rattle.fx_plain.proofs.Words.{removed_count_of, At, Leaving, Gone, numbered, LetsLeave, sum_by, Node, IsSettled, get_or-le-sum_by, sum_by-set}
use Rattle.fx_plain.proofs.Words.{number_of, more_leaving, sum_by-le}
use Rattle.fx_plain.proofs.Cells.{each_set, written, unchanged, inside_of-At, inside_told, fresh_is, file_same}
use Rattle.fx_plain.proofs.Settled.{IsQuiet, quiet_is}

abbrev pub removed_of : List Node → ℕ → Option File
removed_of nodes n = removed_at n (node_at nodes n)

abbrev pub fresh_of : List Node → ℕ → Bool
fresh_of nodes n = is_fresh (node_at nodes n)

abbrev pub leaving_of : List Node → ℕ → Bool
leaving_of nodes n = is_leaving (node_at nodes n)

-- the nodes once the file that a slot named has left it
abbrev pub gave_way : List Node → Option ℕ → List Node
gave_way nodes None = nodes
gave_way nodes (Some old) = slice_set nodes old (node_after_removal (node_at nodes old))

-- the file that a slot names is at that slot
abbrev pub Names : List Node → Option ℕ → ℕ → Type 0
Names nodes x slot = (old : ℕ) → x ≡ Some old → (file : Closed) × (node_at nodes old ≡ At slot file)

removed-gave_way : (nodes : List Node) (x : Option ℕ) (slot : ℕ) → Names nodes x slot
    → removed_of (gave_way nodes x) ≡ with_removed (removed_of nodes) (file_at nodes x)
removed-gave_way nodes None slot named = refl
removed-gave_way nodes (Some old) slot named = let at = (named old refl).1 in
    written removed_at nodes (node_after_removal (node_at nodes old)) Gone (inside_of-At nodes old at) ∙ rw at refl

leaving-gave_way : (nodes : List Node) (x : Option ℕ) (slot : ℕ) → Names nodes x slot
    → leaving_of (gave_way nodes x) ≡ more_leaving (leaving_of nodes) (file_at nodes x)
leaving-gave_way nodes None slot named = refl
leaving-gave_way nodes (Some old) slot named = let at = (named old refl).1 in
    written (λ q node. is_leaving node) nodes (node_after_removal (node_at nodes old)) Gone (inside_of-At nodes old at) ∙ rw at refl

-- a test that doesn't distinguish a file at a slot from a leaving one has the same result as before
told-gave_way : (told : Node → Bool) → ((slot : ℕ) (file : Closed) → told (Leaving file) ≡ told (At slot file)) → (nodes : List Node) (x : Option ℕ)
    (slot : ℕ) → Names nodes x slot → (m : ℕ) → told (node_at (gave_way nodes x) m) ≡ told (node_at nodes m)
told-gave_way told alike nodes None slot named m = refl
told-gave_way told alike nodes (Some old) slot named m = let (file, at) = named old refl in
    each_set (λ k node. told node ≡ told (node_at nodes k)) nodes old (node_after_removal (node_at nodes old)) Gone (inside_of-At nodes old at)
    (rw at (alike slot file)) m (λ _. refl)

length-gave_way : (nodes : List Node) (x : Option ℕ) → length (gave_way nodes x) ≡ length nodes
length-gave_way nodes None = refl
length-gave_way nodes (Some old) = length-set nodes old (node_after_removal (node_at nodes old))

node_else : (nodes : List Node) (x : Option ℕ) (m : ℕ) → ((old : ℕ) → x ≡ Some old → m ≢ old) → node_at (gave_way nodes x) m ≡ node_at nodes m
node_else nodes None m other = refl
node_else nodes (Some old) m other = get_or-set_other nodes old m (node_after_removal (node_at nodes old)) Gone (other old refl)

opened_le : (node : Node) → removed_count_of node ≤ 1
opened_le node = grind arith

filled_le : (x : Option ℕ) → file_count_of x ≤ 1
filled_le x = grind arith

-- one removed file more, if there was a file
opened-gave_way : (nodes : List Node) (x : Option ℕ) (slot : ℕ) → Names nodes x slot
    → sum_by removed_count_of (gave_way nodes x) ≡ sum_by removed_count_of nodes + file_count_of x
opened-gave_way nodes x slot named = grind (arith, sum_by-set, inside_of-At)

-- the number that a slot names is that of the file there
number_at : {c : Contents} (slot : ℕ) (x : Option ℕ) → IsTable c → slot_at c.slots slot ≡ x → x ≡ number_of ((state_of c).at slot)
number_at slot x t is = grind arith

-- two slots name two numbers
pub other_number : (slots : List (Option ℕ)) (nodes : List Node) {s u m n : ℕ} → AllPlaced slots nodes → u ≢ s → slot_at slots s ≡ Some m
    → slot_at slots u ≡ Some n → n ≢ m
other_number slots nodes {s} {u} {m} {n} placed apart at_s at_u = grind (arith, placed s m at_s, placed u n at_u)

-- a table, after a slot got another number, or none, and the file that it named left it
abbrev moved_in : Contents → ℕ → Option ℕ → Option ℕ → List Node → Contents
moved_in c slot x y nodes = record c { slots = slice_set c.slots slot y; nodes = gave_way nodes x }

-- if the nodes are as they were for each slot
module _ {c : Contents} {slot : ℕ} {x : Option ℕ} (y : Option ℕ) (nodes : List Node) (t : IsTable c) (inside : slot < length c.slots)
    (at : slot_at c.slots slot ≡ x) (len : length nodes ≡ length c.nodes)
    (kept : (u m : ℕ) → slot_at c.slots u ≡ Some m → node_at nodes m ≡ node_at c.nodes m) where
  abbrev changed : Contents
  changed = moved_in c slot x y nodes

  names : Names nodes x slot
  names old is = let there = t.placed slot old (at ∙ is) in (there.0, kept slot old (at ∙ is) ∙ there.1)

  same_found : file_at nodes x ≡ (state_of c).at slot
  same_found = file_same c.nodes nodes x (λ m is. kept slot m (at ∙ is)) ∙ ap (file_at c.nodes) (sym at)

  stays : {u : ℕ} (m : ℕ) → u ≢ slot → slot_at c.slots u ≡ Some m → node_at changed.nodes m ≡ node_at c.nodes m
  stays {u} m apart is = node_else nodes x m (λ old was. other_number c.slots c.nodes t.placed apart (at ∙ was) is) ∙ kept u m is

  changed_slots : (u : ℕ) → (state_of changed).at u ≡ changed_at (state_of c).at slot (file_at changed.nodes y) u
  changed_slots u = each_set (λ k z. file_at changed.nodes z ≡ changed_at (state_of c).at slot (file_at changed.nodes y) k) c.slots slot y None inside
      (grind arith) u (λ apart. file_same c.nodes changed.nodes (slot_at c.slots u) (λ m. stays m apart) ∙ grind arith)

  state_of-changed : state_of changed ≡ record (state_of c) {
    at = changed_at (state_of c).at slot (file_at changed.nodes y);
    removed = with_removed (removed_of nodes) ((state_of c).at slot);
    fresh = fresh_of nodes;
  }
  state_of-changed = λ i. record (state_of c) {
    size = length-set c.slots slot y i;
    at = λ u. changed_slots u i;
    removed = (removed-gave_way nodes x slot names ∙ ap (with_removed (removed_of nodes)) same_found) i;
    fresh = λ m. told-gave_way is_fresh (λ _ _. refl) nodes x slot names m i;
  }

  leaving-changed : leaving changed ≡ more_leaving (leaving_of nodes) ((state_of c).at slot)
  leaving-changed = leaving-gave_way nodes x slot names ∙ ap (more_leaving (leaving_of nodes)) same_found

  changed_keeps : ((n : ℕ) → y ≡ Some n → (file : Closed) × (node_at changed.nodes n ≡ At slot file) × (n < length c.slots → n ≡ slot))
      → ((m : ℕ) → m < length c.slots → is_fresh (node_at nodes m) ≡ false)
      → ((m : ℕ) → is_retired (node_at nodes m) ≡ true → is_retired (node_at c.nodes m) ≡ true) → IsTable changed
  changed_keeps new used still = let same = length-set c.slots slot y in record {
    few_slots = rw same t.few_slots;
    range_inside = rw same t.range_inside;
    few_nodes = rw (length-gave_way nodes x, len) t.few_nodes;
    same_numbers = t.same_numbers ∙ sym (length-gave_way nodes x ∙ len);
    placed = λ u m. each_set (λ k z. z ≡ Some m → (file : Closed) × (node_at changed.nodes m ≡ At k file)) c.slots slot y None inside
        (λ is. let now = new m is in (now.0, now.1)) u (λ apart is. let there = t.placed u m is in (there.0, stays m apart is ∙ there.1));
    own = λ u m is lt. each_set (λ k z. z ≡ Some m → m ≡ k) c.slots slot y None inside (λ named. (new m named).2 (omega arith)) u
        (λ apart named. t.own u m named (omega arith)) is;
    used = λ m lt. told-gave_way is_fresh (λ _ _. refl) nodes x slot names m ∙ used m (omega arith);
    held = λ m is. t.held m (still m (sym (told-gave_way is_retired (λ _ _. refl) nodes x slot names m) ∙ is));
  }

  changed_counted : {full held removed : ℕ} (full' removed' : ℕ) → IsCounted c full held removed
      → sum_by removed_count_of nodes ≡ sum_by removed_count_of c.nodes → full' + file_count_of x ≡ full + file_count_of y
      → removed' ≡ removed + file_count_of x → (removed' < 2 ^ 32) × (full + 1 < 2 ^ 32) × IsCounted changed full' held removed'
  changed_counted full' removed' k same full_is removed_is =
      let was = ap file_count_of at in let slots_total = sum_by-set file_count_of c.slots slot y None inside in
      let nodes_total = opened-gave_way nodes x slot names in
      let all = sum_by-le removed_count_of 1 changed.nodes (λ k d lt. opened_le (slice_index_or changed.nodes k d)) in
      let most = sum_by-le file_count_of 1 c.slots (λ k d lt. filled_le (slice_index_or c.slots k d)) in
      let size = length-gave_way nodes x in grind arith

-- a table, after the file of a slot was taken
abbrev pub taken : Contents → ℕ → ℕ → Contents
taken c slot number = moved_in c slot (Some number) None c.nodes

module _ {c : Contents} {slot number : ℕ} (t : IsTable c) (inside : slot < length c.slots) (at : slot_at c.slots slot ≡ Some number) where
  take_keeps : IsTable (taken c slot number)
  take_keeps = changed_keeps None c.nodes t inside at refl (λ _ _ _. refl) (λ n is. cc) t.used (λ _ is. is)

  pub take_removes : LetsLeave c (taken c slot number) (Take slot ((state_of c).at slot)) ((state_of c).at slot) (Some number)
  take_removes = record {
    answer = number_at slot (Some number) t at;
    step = ((inside, refl), state_of-changed None c.nodes t inside at refl (λ _ _ _. refl));
    numbers = refl;
    sound = take_keeps;
    leaving = leaving-changed None c.nodes t inside at refl (λ _ _ _. refl);
  }

  pub take_counted : {full held removed : ℕ} → IsCounted c full held removed
      → (1 ≤ full) × (removed + 1 < 2 ^ 32) × (IsTable (taken c slot number) × IsCounted (taken c slot number) (full - 1) held (removed + 1))
  take_counted {full} {removed} k =
      let one = ap file_count_of at in
      let some_full : 1 ≤ full = let least = get_or-le-sum_by file_count_of c.slots slot None inside in let f = k.full_slots in omega arith in
      let all = changed_counted None c.nodes t inside at refl (λ _ _ _. refl) (full - 1) (removed + 1) k refl (omega arith) (omega arith) in
      (some_full, all.0, (take_keeps, all.2))

-- no slot has the number, and no file with it waits for its close
pub record IsFree (c : Contents) (slot n : ℕ) : Type 0 where
  room : n < length c.nodes
  unnamed : (u m : ℕ) → slot_at c.slots u ≡ Some m → m ≢ n
  own : n < length c.slots → n ≡ slot
  quiet : removed_count_of (node_at c.nodes n) ≡ 0

pub fresh_free : {c : Contents} (slot n : ℕ) → IsTable c → is_fresh (node_at c.nodes n) ≡ true → IsFree c slot n
fresh_free {c} slot n t fresh = grind (arith, fresh_is, inside_told is_fresh c.nodes n refl fresh)

-- the slot's own number is free, if the slot is empty and no file waits for its close
pub own_free : {c : Contents} {slot : ℕ} → IsTable c → IsSettled (state_of c) → slot < length c.slots → slot < length c.nodes
    → slot_at c.slots slot ≡ None → IsFree c slot slot
own_free {c} {slot} t settled inside room empty = grind arith

-- a table, after a file was put at a slot
abbrev pub put_at : Contents → ℕ → Option ℕ → ℕ → Closed → Contents
put_at c slot found n file = moved_in c slot found (Some n) (slice_set c.nodes n (At slot file))

module _ {c : Contents} {slot n : ℕ} {found : Option ℕ} (file : Closed) (t : IsTable c) (inside : slot < length c.slots)
    (at : slot_at c.slots slot ≡ found) (free : IsFree c slot n) where
  abbrev with_file : List Node
  with_file = slice_set c.nodes n (At slot file)

  abbrev was_quiet : IsQuiet (node_at c.nodes n)
  was_quiet = quiet_is (node_at c.nodes n) free.quiet

  same_len : length with_file ≡ length c.nodes
  same_len = length-set c.nodes n (At slot file)

  same_named : (u m : ℕ) → slot_at c.slots u ≡ Some m → node_at with_file m ≡ node_at c.nodes m
  same_named u m is = get_or-set_other c.nodes n m (At slot file) Gone (free.unnamed u m is)

  pub still_names : Names with_file found slot
  still_names = names (Some n) with_file t inside at same_len same_named

  put_here : node_at (gave_way with_file found) n ≡ At slot file
  put_here = grind (arith, node_else, get_or-set_same)

  -- the state then
  pub state_of-put : state_of (put_at c slot found n file) ≡ record (state_of c) {
    at = changed_at (state_of c).at slot (Some (numbered n file));
    removed = with_removed (state_of c).removed ((state_of c).at slot);
    fresh = changed_at (state_of c).fresh n false;
  }
  state_of-put = state_of-changed (Some n) with_file t inside at same_len same_named ∙ λ i. record (state_of c) {
    at = changed_at (state_of c).at slot (placed_at n (put_here i));
    removed = with_removed ((written removed_at c.nodes (At slot file) Gone free.room
        ∙ unchanged (state_of c).removed n None (sym (was_quiet.0 n))) i) ((state_of c).at slot);
    fresh = written (λ q node. is_fresh node) c.nodes (At slot file) Gone free.room i;
  }

  put_keeps : IsTable (put_at c slot found n file)
  put_keeps = changed_keeps (Some n) with_file t inside at same_len same_named
      (λ m is. let e : n ≡ m = cc in subst (λ (k : ℕ). (f : Closed) × (node_at (put_at c slot found n file).nodes k ≡ At slot f)
      × (k < length c.slots → k ≡ slot)) e (file, put_here, free.own))
      (λ m lt. each_set (λ _ x. is_fresh x ≡ false) c.nodes n (At slot file) Gone free.room refl m (λ _. t.used m lt))
      (λ m. each_set (λ k x. is_retired x ≡ true → is_retired (node_at c.nodes k) ≡ true) c.nodes n (At slot file) Gone free.room
      (λ (is : false ≡ true). cc) m (λ _ is. is))

  pub put_removes : is_fresh (node_at c.nodes n) ≡ true
      → LetsLeave c (put_at c slot found n file) (Put slot (numbered n file) ((state_of c).at slot)) ((state_of c).at slot) found
  put_removes fresh = record {
    answer = number_at slot found t at;
    step = ((inside, fresh, refl), state_of-put);
    numbers = refl;
    sound = put_keeps;
    leaving = leaving-changed (Some n) with_file t inside at same_len same_named
        ∙ ap (λ (l : ℕ → Bool). more_leaving l ((state_of c).at slot)) (written (λ q node. is_leaving node) c.nodes (At slot file) Gone free.room
        ∙ unchanged (leaving c) n false (sym was_quiet.1));
  }

  pub put_counted : {full held removed : ℕ} (full' removed' : ℕ) → IsCounted c full held removed
      → full' + file_count_of found ≡ full + 1 → removed' ≡ removed + file_count_of found → (removed' < 2 ^ 32) × (full + 1 < 2 ^ 32)
      × (IsTable (put_at c slot found n file) × IsCounted (put_at c slot found n file) full' held removed')
  put_counted full' removed' k full_is removed_is =
      let quiet = free.quiet in let nodes_total = sum_by-set removed_count_of c.nodes n (At slot file) Gone free.room in
      let all = changed_counted (Some n) with_file t inside at same_len same_named full' removed' k (omega arith) full_is removed_is in
      (all.0, all.1, (put_keeps, all.2))

-- the value that was read at a slot is there
pub seen_at : {X : Type 0} (xs : List X) {i : ℕ} (d : X) {x y : X} → i < length xs → x ≡ slice_index_or xs i x → x ≡ y → slice_index_or xs i d ≡ y
seen_at xs {i} d {x} inside read is = get_or_default xs i d x inside ∙ sym read ∙ is
