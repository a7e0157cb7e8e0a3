-- A later part of a history, with the numbers that a newly opened table uses.
use Rattle.fx_plain.proofs.Words.{◌≡◌, ◌≢◌, ◌⊎◌, ℕ, zero, suc, ◌<◌, Bool, true, false, List, [], ◌∷◌, length, refl, sym, ap, ◌∙◌, Option, Some, None}
use Rattle.fx_plain.proofs.Words.{if◌then◌else◌, ◌==◌, arith, inl, inr, File, ◌+◌, ◌-◌, ◌≤◌, not, ◌&&◌, nat_lt, map, lt-ltb, State, IsSettled}
use Rattle.fx_plain.proofs.Words.{opening, file_numbered, AllowsAll, state_after, action_of, Event, Action, IsLegal, identity_of, number_of}
use Rattle.fx_plain.proofs.Words.{IsStart, installed_by}
use Rattle.fx_plain.proofs.Cells.{by_equality}
use Rattle.fx_plain.proofs.LawFiles.{installed_now, used_after}
use Rattle.fx_plain.proofs.Renaming.{IsOneToOne, IsNamed, renamed_state, IsRenamable, InstallsNamed, legal_renamed}
use Rattle.fx_plain.specs.Reopening.{Renaming, renamed_found, renamed_event, numbers_given, with_number_of, HasOtherNumbers, IsTableAtRest}

-- The place of a number in a list of distinct ones, from the last one on, and the slot that has the
-- file of a number.
abbrev pub place_of : ℕ → List ℕ → ℕ
place_of n [] = 0
place_of n (x ∷ l) = if x == n then length l else place_of n l

abbrev pub number_at : ℕ → List ℕ → Option ℕ
number_at k [] = None
number_at k (x ∷ l) = if k == length l then Some x else number_at k l

abbrev pub IsIn : ℕ → List ℕ → Type 0
IsIn n [] = ⊥
IsIn n (x ∷ l) = (x ≡ n) ⊎ IsIn n l

abbrev pub AreDistinct : List ℕ → Type 0
AreDistinct [] = Unit {0}
AreDistinct (x ∷ l) = (IsIn x l → ⊥) × AreDistinct l

pub number_at_in : (k : ℕ) {n : ℕ} (l : List ℕ) → number_at k l ≡ Some n → IsIn n l
number_at_in k [] is = cc
number_at_in k {n} (x ∷ l) is = by_equality k (length l) (λ b. (if b then Some x else number_at k l) ≡ Some n → IsIn n (x ∷ l))
    (λ same here. inl (cc here)) (λ other there. inr (number_at_in k l there)) is

pub place_below : (n : ℕ) (l : List ℕ) → IsIn n l → place_of n l < length l
place_below n [] is = absurd is
place_below n (x ∷ l) (inl is) = grind arith
place_below n (x ∷ l) (inr there) = let below = place_below n l there in grind arith

pub number_at_place : (n : ℕ) (l : List ℕ) → IsIn n l → number_at (place_of n l) l ≡ Some n
number_at_place n [] is = absurd is
number_at_place n (x ∷ l) (inl is) = grind arith
number_at_place n (x ∷ l) (inr there) = let below = place_below n l there in let earlier = number_at_place n l there in grind arith

pub place_of_number : (k : ℕ) {n : ℕ} (l : List ℕ) → AreDistinct l → number_at k l ≡ Some n → place_of n l ≡ k
place_of_number k [] distinct is = cc
place_of_number k {n} (x ∷ l) distinct is = by_equality k (length l) (λ b. (if b then Some x else number_at k l) ≡ Some n → place_of n (x ∷ l) ≡ k)
    (λ same here. by_equality x n (λ b. (if b then length l else place_of n l) ≡ k) (λ _. sym same) (λ other. absurd (other (cc here))))
    (λ apart there. grind (arith, by_equality, number_at_in, place_of_number k l distinct.1 there)) is

-- the test that the file at a slot has the number
abbrev pub has_number : ℕ → Option File → Bool
has_number n None = false
has_number n (Some f) = f.number == n

abbrev pub slot_of : (ℕ → Option File) → ℕ → ℕ → Option ℕ
slot_of at zero n = None
slot_of at (suc s) n = if has_number n (at s) then Some s else slot_of at s n

by_file : (n : ℕ) (x : Option File) (P : Bool → Type 0) → ((f : File) → x ≡ Some f → f.number ≡ n → P true)
    → (((f : File) → x ≡ Some f → f.number ≢ n) → P false) → P (has_number n x)
by_file n x P there none = grind (arith, by_equality)

pub slot_found : (at : ℕ → Option File) (size n : ℕ) {s : ℕ} → slot_of at size n ≡ Some s → (s < size) × (f : File) × (at s ≡ Some f) × (f.number ≡ n)
slot_found at zero n is = cc
slot_found at (suc k) n {s} is = by_file n (at k)
    (λ b. (if b then Some k else slot_of at k n) ≡ Some s → (s < suc k) × (f : File) × (at s ≡ Some f) × (f.number ≡ n))
    (λ f there named here. let e : k ≡ s = cc here in (omega arith, f, ap at (sym e) ∙ there, named))
    (λ none below. let found = slot_found at k n below in (let lt = found.0 in omega arith, found.1, found.2, found.3)) is

pub no_slot_found : (at : ℕ → Option File) (size n : ℕ) → slot_of at size n ≡ None → (s : ℕ) → s < size → {f : File} → at s ≡ Some f → f.number ≢ n
no_slot_found at zero n none s lt is = absurd (omega arith)
no_slot_found at (suc k) n none s lt {f} is = by_file n (at k) (λ b. (if b then Some k else slot_of at k n) ≡ None → f.number ≢ n)
    (λ g there named found. absurd (cc found))
    (λ others below. by_equality s k (λ _. f.number ≢ n) (λ same. others f (ap at (sym same) ∙ is))
    (λ apart. no_slot_found at k n below s (omega arith) is)) none

-- A later part of a history, with the numbers that a newly opened table uses.
-- a number that was used at the start is used afterwards
used_behind : (start : State) (h : List Action) (n : ℕ) → start.fresh n ≡ false → (state_after start h).fresh n ≡ false
used_behind start [] n used = used
used_behind start (a ∷ h) n used = used_after (state_after start h) a n (used_behind start h n used)

by_installed : (a : Action) (l : List ℕ) (n : ℕ) → IsIn n (with_number_of (installed_by a) l)
    → ((f : File) × (installed_by a ≡ Some f) × (f.number ≡ n)) ⊎ IsIn n l
by_installed a l n h4 = grind arith

-- a number that a history gave to a file was fresh at the start, and isn't fresh afterwards
module _ (start : State) where
  pub used_then : (h : List Action) → AllowsAll start h → (n : ℕ) → IsIn n (numbers_given h) → (state_after start h).fresh n ≡ false
  used_then [] may n is = absurd is
  used_then (a ∷ h) may n is = elim (by_installed a (numbers_given h) n is) [
    | inl new ↦ rw (sym new.2) (installed_now (state_after start h) a may.1 new.1).1
    | inr there ↦ used_after (state_after start h) a n (used_then h may.0 n there)
  ]

  fresh_before : (h : List Action) (n : ℕ) → (state_after start h).fresh n ≡ true → start.fresh n ≡ true
  fresh_before h n fresh = grind (arith, used_behind)

  pub was_fresh : (h : List Action) → AllowsAll start h → (n : ℕ) → IsIn n (numbers_given h) → start.fresh n ≡ true
  was_fresh [] may n is = absurd is
  was_fresh (a ∷ h) may n is = elim (by_installed a (numbers_given h) n is) [
    | inl new ↦ rw (sym new.2) (fresh_before h new.0.number (installed_now (state_after start h) a may.1 new.1).0)
    | inr there ↦ was_fresh h may.0 n there
  ]

  pub distinct_installs : (h : List Action) → AllowsAll start h → AreDistinct (numbers_given h)
  distinct_installs [] may = tt
  distinct_installs (a ∷ h) may = grind (arith, distinct_installs h may.0, installed_by, installed_now, state_after, used_then)

settled_still : (r : Renaming) (fresh : ℕ → Bool) (st : State) → IsSettled st → IsSettled (renamed_state r fresh st)
settled_still r fresh st settled = grind arith

-- a slot's file gets the slot's number, and a new file a number after those of the slots
abbrev pub number_by : ℕ → List ℕ → ℕ → Option ℕ → ℕ
number_by size new old None = size + place_of old new
number_by size new old (Some slot) = slot

module _ (chain : ℕ → ℕ) (start : State) (new : List ℕ) where
  abbrev pub by_order : Renaming
  by_order = record {
    number = λ old. number_by start.size new old (slot_of start.at start.size old);
    chain = chain;
    back = λ k. if nat_lt k start.size then number_of (start.at k) else number_at (k - start.size) new;
  }

  back_low : {k : ℕ} → k < start.size → by_order.back k ≡ number_of (start.at k)
  back_low {k} lt = rw (lt-ltb k start.size lt) refl

  module _ (begins : IsStart start) (fresh : (n : ℕ) → IsIn n new → start.fresh n ≡ true) (distinct : AreDistinct new) where
    of_slot : {slot : ℕ} {f : File} → slot < start.size → start.at slot ≡ Some f → (x : Option ℕ) → slot_of start.at start.size f.number ≡ x
        → number_by start.size new f.number x ≡ slot
    of_slot {slot} {f} lt is None none = absurd (no_slot_found start.at start.size f.number none slot lt is refl)
    of_slot {slot} {f} lt is (Some s) found = grind (arith, slot_found)

    of_new : (n : ℕ) → start.fresh n ≡ true → (x : Option ℕ) → slot_of start.at start.size n ≡ x
        → number_by start.size new n x ≡ start.size + place_of n new
    of_new n is x h4 = grind (arith, slot_found)

    number_of_new : (n : ℕ) → start.fresh n ≡ true → by_order.number n ≡ start.size + place_of n new
    number_of_new n is = of_new n is (slot_of start.at start.size n) refl

    named_slot : {slot : ℕ} {f : File} → slot < start.size → start.at slot ≡ Some f → IsNamed by_order f.number
    named_slot {f} lt is = ap by_order.back (of_slot lt is (slot_of start.at start.size f.number) refl) ∙ back_low lt ∙ ap number_of is

    pub named_new : (n : ℕ) → IsIn n new → IsNamed by_order n
    named_new n there = grind (arith, number_of_new, number_at_place)

    from_slot : {k old : ℕ} → k < start.size → (x : Option File) → start.at k ≡ x → number_of x ≡ Some old → by_order.number old ≡ k
    from_slot lt x is same = grind (arith, of_slot)

    pub one_to_one : IsOneToOne by_order
    one_to_one k old is = grind (arith, from_slot, place_of_number, number_of_new, number_at_in)

    -- a fresh number that leads back is one of the new ones
    is_new : {n : ℕ} → start.fresh n ≡ true → IsNamed by_order n → IsIn n new
    is_new {n} is named = grind (arith, number_at_in)

    module _ {numbers : ℕ} (enough : start.size + length new ≤ numbers) (past : (slot : ℕ) → start.size ≤ slot → start.at slot ≡ None) where
      fresh_then : (n : ℕ) → IsNamed by_order n → start.fresh n ≡ true
          → (not (nat_lt (by_order.number n) start.size) && nat_lt (by_order.number n) numbers) ≡ true
      fresh_then n named is = grind (arith, number_of_new, place_below, is_new)

      at_inside : (slot : ℕ) {f : File} → start.at slot ≡ Some f → slot < start.size
      at_inside slot {f} is = grind arith

      pub renamable : IsRenamable by_order (opening start numbers).fresh start
      renamable = grind (arith, named_slot, fresh_then)

      found_anew : (slot : ℕ) (x : Option File) → start.at slot ≡ x → renamed_found by_order x ≡ file_numbered x slot
      found_anew slot x is = grind (arith, of_slot, at_inside)

      pub opened : renamed_state by_order (opening start numbers).fresh start ≡ opening start numbers
      opened = grind (arith, found_anew)

given_more : (x : Option File) (l : List ℕ) (n : ℕ) → IsIn n l → IsIn n (with_number_of x l)
given_more x l n is = grind arith

installs_named : (r : Renaming) (h : List Action) → ((n : ℕ) → IsIn n (numbers_given h) → IsNamed r n) → InstallsNamed r h
installs_named r [] known = tt
installs_named r (a ∷ h) known =
    grind (arith, given_more, installs_named r h (λ n there. known n (given_more (installed_by a) (numbers_given h) n there)))

same_identity : (r : Renaming) (x : Option File) → identity_of (renamed_found r x) ≡ identity_of x
same_identity r x = grind arith

pub opened_anew : (chain : ℕ → ℕ) (numbers : ℕ) (start end : State) (h : List Event) → IsTableAtRest start
    → start.size + length (numbers_given (map action_of h)) ≤ numbers → IsLegal start h end
    → (r : Renaming) × (left : State) × (r.chain ≡ chain) × IsLegal (opening start numbers) (map (renamed_event r) h) left × HasOtherNumbers end left
opened_anew chain numbers start end h rest enough legal =
    let actions = map action_of h in let may = legal.leads.0 in let new = numbers_given actions in
    let fresh = was_fresh start actions may in let distinct = distinct_installs start actions may in
    let r = by_order chain start new in let renamed = legal_renamed r (one_to_one chain start new rest.start fresh distinct)
    (renamable chain start new rest.start fresh distinct enough rest.inside)
    (installs_named r actions (named_new chain start new rest.start fresh distinct)) legal in
    grind (arith, same_identity, opened chain start new rest.start fresh distinct enough rest.inside, renamed.1, settled_still r renamed.0 end)
