-- Files move between a table of one thread and the places of a shared one.
use Rattle.fx_table.proofs.Words.{common_steps, ◌≡◌, ◌≢◌, ℕ, zero, suc, ◌+◌, ◌<◌, ◌≤◌, List, [], ◌∷◌, ◌++◌, length, sym, refl, ap, ◌∙◌, arith, ◌⊎◌}
use Rattle.fx_table.proofs.Words.{None, dite, some, get_elem?, State, Contents, state_of, changed_at, cond, set, Bool, Option, Some, nat_lt, dec_le}
use Rattle.fx_table.proofs.Words.{option_map, Closed, IsSettled, identity_of, numbered, slots_in_order, number_of, HasSameFiles, IsShell, IsShellOf}
use Rattle.fx_table.proofs.Words.{AreBack, file_in_place, lt-ltb, le-ltb, File, get_or-map-range_with_len, length-map-range_with_len}
use Rattle.std.proofs.Math.ListN.{get_or-eq_default}
use Rattle.fx_table.proofs.SumLemmas.{read_at, stands_at}
use Rattle.fx_table.proofs.Seats.{set_here, set_else}

-- a table has no file past its slots
pub none_outside : (c : Contents) {slot : ℕ} → (state_of c).size ≤ slot → (state_of c).at slot ≡ None
none_outside c g = rw (get_or-eq_default c.slots None g)

-- Files move out.
-- a table whose files were taken out
pub all_taken : {st : State} {same now : State} → HasSameFiles st same → IsSettled same → now ≡ record same { at = λ _. None } → IsShellOf st now
all_taken files settled is = rw is assumption

-- the files that were taken out, one after another
pub files_taken : (plain same : Contents) {before homes : List (Option Closed)} → HasSameFiles (state_of plain) (state_of same) → before ≡ []
    → homes ≡ before ++ slots_in_order (state_of same).at (state_of same).size
    → (place : ℕ) → file_in_place homes place ≡ identity_of ((state_of plain).at place)
files_taken plain same {homes = homes} files none with_files place = grind (arith, common_steps, get_or-map-range_with_len, length-map-range_with_len, none_outside)

-- one more empty place
pub none_behind : (homes : List (Option Closed)) (place : ℕ) → file_in_place (homes ++ None ∷ []) place ≡ file_in_place homes place
none_behind [] zero = refl
none_behind [] (suc n) = refl
none_behind (x ∷ xs) zero = refl
none_behind (x ∷ xs) (suc n) = none_behind xs n

-- the content of a place
pub in_place : (homes : List (Option Closed)) (place : ℕ) {x : Option Closed} → place < length homes → file_in_place homes place ≡ x
    → get_elem? homes place ≡ some x
in_place [] place l is = absurd (omega arith)
in_place (y ∷ ys) zero l is = ap some is
in_place (y ∷ ys) (suc n) l is = in_place ys n (omega arith) is

-- Files come back.
-- the slot has this file now, or none, and the others have what they had
pub record Becomes (old : State) (slot : ℕ) (file : Option Closed) (new : State) : Type 0 where
  pub size : new.size ≡ old.size
  pub range : new.range ≡ old.range
  pub there : identity_of (new.at slot) ≡ file
  pub others : (other : ℕ) → other ≢ slot → new.at other ≡ old.at other
  pub settled : IsSettled new

-- a file was put at an empty slot, under the slot's number
pub file_put : {a b : State} {slot : ℕ} {file : Closed} → IsSettled a
    → b ≡ record a { at = changed_at a.at slot (Some (numbered slot file)) } → Becomes a slot (Some file) b
file_put {a} {slot = slot} {file = file} settled is = grind arith

-- between these slots the files are still away
pub record IsPartlyBack (shell : State) (file : ℕ → Option Closed) (from to : ℕ) (st : State) : Type 0 where
  pub size : st.size ≡ shell.size
  pub range : st.range ≡ shell.range
  pub away : (slot : ℕ) → from ≤ slot → slot < to → st.at slot ≡ None
  pub back : (slot : ℕ) → (slot < from) ⊎ (to ≤ slot) → identity_of (st.at slot) ≡ file slot
  pub settled : IsSettled st

module _ (shell : State) (file : ℕ → Option Closed) where
  pub all_back : {st : State} {from to : ℕ} → to ≤ from → IsPartlyBack shell file from to st → AreBack shell file st
  all_back {st} {from} done p = grind arith

  pub last_back : {st st' : State} {from to : ℕ} → Becomes st to (file to) st' → IsPartlyBack shell file from (to + 1) st
      → IsPartlyBack shell file from to st'
  last_back {from = from} {to = to} = grind arith

-- Files come out of the places of a shared table, and back to a table of one thread, one slot after
-- the other.

-- the place of the file at each of `size` slots
module _ (size : ℕ) (place_at : ℕ → Option ℕ) where
  abbrev pub file_of : List (Option Closed) → Option ℕ → Option Closed
  file_of xs None = None
  file_of xs (Some place) = file_in_place xs place

  abbrev pub file_at : List (Option Closed) → ℕ → Option Closed
  file_at xs slot = cond (nat_lt slot size) (file_of xs (place_at slot)) None

  -- the files of the slots are in places of their own, and no other place has one
  pub record AreAtHome (xs : List (Option Closed)) : Type 0 where
    pub inside : (slot place : ℕ) → slot < size → place_at slot ≡ Some place → place < length xs
    pub apart : (slot other p q : ℕ) → slot < size → other < size → slot ≢ other → place_at slot ≡ Some p → place_at other ≡ Some q → p ≢ q
    pub others : (place : ℕ) (file : Closed) → get_elem? xs place ≡ some (Some file)
        → (slot : ℕ) × (slot < size) × (place_at slot ≡ Some place)

  pub here_at : (xs : List (Option Closed)) {slot : ℕ} → slot < size → file_at xs slot ≡ file_of xs (place_at slot)
  here_at xs {slot} l = ap (λ (b : Bool). cond b (file_of xs (place_at slot)) None) (lt-ltb slot size l)

  pub none_past : (xs : List (Option Closed)) {slot : ℕ} → size ≤ slot → file_at xs slot ≡ None
  none_past xs {slot} g = ap (λ (b : Bool). cond b (file_of xs (place_at slot)) None) (le-ltb slot size g)

  -- the files of the first slots are back, and those of the others are in their places
  pub record AreComing (shell : State) (xs : List (Option Closed)) (done : ℕ) (now : List (Option Closed)) (st : State) : Type 0 where
    pub part : IsPartlyBack shell (file_at xs) done size st
    pub left : (slot place : ℕ) → done ≤ slot → slot < size → place_at slot ≡ Some place → get_elem? now place ≡ get_elem? xs place
    pub others : (place : ℕ) (file : Closed) → get_elem? now place ≡ some (Some file)
        → (slot : ℕ) × (done ≤ slot) × (slot < size) × (place_at slot ≡ Some place)

  pub none_came : {shell : State} {xs : List (Option Closed)} → IsShell shell → AreAtHome xs → AreComing shell xs 0 xs shell
  none_came {shell} {xs} empty home = grind arith

  module _ {shell : State} {xs : List (Option Closed)} {done : ℕ} {now : List (Option Closed)} {st : State} (coming : AreComing shell xs done now st) where
    pub all_came : size ≤ done → AreBack shell (file_at xs) st
    all_came whole = all_back shell (file_at xs) whole coming.part

    pub none_left : size ≤ done → (place : ℕ) {file : Closed} → get_elem? now place ≡ some (Some file) → ⊥
    none_left whole place {file} there = let o = coming.others place file there in omega (arith, whole, o.1, o.2)

    -- one slot's file comes back, if there is one
    module _ (home : AreAtHome xs) (inside : done < size) where
      pub none_named : place_at done ≡ None → AreComing shell xs (done + 1) now st
      none_named none = grind arith

      module _ {place : ℕ} {x : Option Closed} {new : List (Option Closed)} (named : place_at done ≡ Some place)
          (there : get_elem? now place ≡ some x) (written : new ≡ set now place None) where
        file_is : file_at xs done ≡ x
        file_is = grind (arith, read_at)

        place_left : {st' : State} → IsPartlyBack shell (file_at xs) (done + 1) size st' → AreComing shell xs (done + 1) new st'
        place_left part = grind (arith, set_else, set_here)

        pub some_came : {file : Closed} {st' : State} → x ≡ Some file → Becomes st done (Some file) st' → AreComing shell xs (done + 1) new st'
        some_came {st' = st'} is gets = grind (arith, place_left, file_is)

        pub none_there : x ≡ None → AreComing shell xs (done + 1) new st
        none_there is = place_left (grind (arith, (file_is ∙ is)))

-- the files of a state, each in the place of its number
module _ (size : ℕ) (place_at : ℕ → Option ℕ) (end : State) (place_of : ℕ → ℕ) (xs : List (Option Closed)) where
  pub record AreStored : Type 0 where
    pub named : (slot : ℕ) → slot < size → place_at slot ≡ option_map place_of (number_of (end.at slot))
    pub there : (slot : ℕ) (f : File) → slot < size → end.at slot ≡ Some f → get_elem? xs (place_of f.number) ≡ some (Some f.identity)
    pub apart : (slot other : ℕ) (f g : File) → slot < size → other < size → end.at slot ≡ Some f → end.at other ≡ Some g
        → place_of f.number ≡ place_of g.number → slot ≡ other
    pub others : (place : ℕ) (file : Closed) → get_elem? xs place ≡ some (Some file)
        → (slot : ℕ) × (f : File) × (slot < size) × (end.at slot ≡ Some f) × (place_of f.number ≡ place)
    pub outside : (slot : ℕ) → size ≤ slot → end.at slot ≡ None

  module _ (s : AreStored) where
    file_there : (slot place : ℕ) → slot < size → place_at slot ≡ Some place → (f : File) × (end.at slot ≡ Some f) × (place_of f.number ≡ place)
    file_there slot place l is = grind arith

    pub at_home : AreAtHome size place_at xs
    at_home = record {
      inside = λ slot place l is. let f = file_there slot place l is in
          (stands_at xs place _ (ap (get_elem? xs) (sym f.2) ∙ s.there slot f.0 l f.1)).0;
      apart = grind (arith, file_there);
      others = grind (arith, number_of);
    }

    pub files_are : (slot : ℕ) → file_at size place_at xs slot ≡ identity_of (end.at slot)
    files_are slot = dite (dec_le (suc slot) size)
        (λ low. let l : slot < size = omega (arith, low) in
        here_at size place_at xs l ∙ (ap (file_of size place_at xs) (s.named slot l) ∙ go l (end.at slot) refl))
        (λ high. let g : size ≤ slot = omega (arith, high) in none_past size place_at xs g ∙ sym (ap identity_of (s.outside slot g)))
      where
        go : slot < size → (found : Option File) → end.at slot ≡ found
            → file_of size place_at xs (option_map place_of (number_of found)) ≡ identity_of found
        go l None e = refl
        go l (Some f) e = read_at xs (place_of f.number) None (s.there slot f l e)
