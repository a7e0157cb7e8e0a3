-- Calls in flight, counted by kind and slot, and what each says of the file of its slot.
use Rattle.fx_direct.proofs.Words.{arith, ◌≡◌, ◌≢◌, ℕ, zero, suc, ◌+◌, ◌<◌, ◌==◌, ◌&&◌, ◌⊎◌, Bool, true, false, if◌then◌else◌, List, [], ◌∷◌, ◌++◌, refl, sym}
use Rattle.fx_direct.proofs.Words.{AllByRecursion, Option, Some, None, eq-eqb, ne_eqb, File, Phase, Member, Open, Request, CloseMember, bit, requests_in, is_opening, is_closing}
use Rattle.fx_direct.proofs.Words.{Free, Opening, Live, Ending, Closing, Chained, Unseen, Installed, Failed, Awaited, Took, ChainOpen, ChainEnd}
use Rattle.fx_direct.proofs.Words.{DirectCall, OpenAt, UseOf, CloseOf, key_of_call, CallStage, Waits, Made, Quit, Pending, pending, LifeKey, with_uses, with_close, waits_for, same_key}
use Rattle.fx_direct.proofs.Words.{chain, chain_phase, is_chained, Slot, State, IsInRange}

abbrev pub place_of : Pending → ℕ
place_of p = (key_of_call p.call).slot

-- 1 if the call is of this kind
abbrev pub is_member : Member → DirectCall → ℕ
is_member Open (OpenAt k) = 1
is_member Request (UseOf k) = 1
is_member CloseMember (CloseOf k) = 1
is_member m call = 0

abbrev pub member_of : DirectCall → Member
member_of (OpenAt k) = Open
member_of (UseOf k) = Request
member_of (CloseOf k) = CloseMember

pub own_member : (call : DirectCall) → is_member (member_of call) call ≡ 1
own_member call = grind arith

abbrev pub at_slot : Member → ℕ → Pending → ℕ
at_slot m s p = if place_of p == s then is_member m p.call else 0

-- the number of calls of this kind at a slot
abbrev pub tally : Member → ℕ → List Pending → ℕ
tally m s [] = 0
tally m s (p ∷ ps) = at_slot m s p + tally m s ps

-- the calls of this kind that a phase counts
abbrev pub count_in : Member → Phase → ℕ
count_in Open p = bit (is_opening p)
count_in Request p = requests_in p
count_in CloseMember p = bit (is_closing p)

pub at_same : (m : Member) (s : ℕ) (p : Pending) → place_of p ≡ s → at_slot m s p ≡ is_member m p.call
at_same m s p e = rw (eq-eqb (place_of p) s e)

pub at_other : (m : Member) (s : ℕ) (p : Pending) → place_of p ≢ s → at_slot m s p ≡ 0
at_other m s p e = rw (ne_eqb (place_of p) s e)

tally-append : (m : Member) (s : ℕ) (xs ys : List Pending) → tally m s (xs ++ ys) ≡ tally m s xs + tally m s ys
tally-append m s [] ys = omega arith
tally-append m s (x ∷ xs) ys = omega (arith, tally-append m s xs ys)

pub tally-mid : (m : Member) (s : ℕ) (front rest : List Pending) (p : Pending)
    → tally m s (front ++ p ∷ rest) ≡ at_slot m s p + tally m s (front ++ rest)
tally-mid m s front rest p = omega (arith, tally-append m s front (p ∷ rest), tally-append m s front rest)

-- the requests and the close of a chain
abbrev pub uses_of : Member → ℕ → ℕ
uses_of Request n = n
uses_of m n = 0

uses_zero : (m : Member) → uses_of m 0 ≡ 0
uses_zero m = grind arith

pub tally-uses : (m : Member) (k : LifeKey) (n : ℕ) (ps : List Pending) → tally m k.slot (with_uses k n ps) ≡ uses_of m n + tally m k.slot ps
tally-uses m k zero ps = let e = uses_zero m in omega arith
tally-uses m k (suc n) ps = grind (arith, tally-uses m k n ps, at_same)

pub uses_else : (m : Member) (k : LifeKey) (n s : ℕ) (ps : List Pending) → s ≢ k.slot → tally m s (with_uses k n ps) ≡ tally m s ps
uses_else m k zero s ps ne = refl
uses_else m k (suc n) s ps ne =
    let e = at_other m s (pending (UseOf k) true Waits) (λ (e : k.slot ≡ s). ne (sym e)) in let r = uses_else m k n s ps ne in omega arith

pub close_else : (m : Member) (k : LifeKey) (closes : Bool) (s : ℕ) (ps : List Pending) → s ≢ k.slot → tally m s (with_close k closes ps) ≡ tally m s ps
close_else m k closes s ps ne = grind (arith, at_other)

-- Facts of each call.

pub each-out : (P : Pending → Type 0) (front rest : List Pending) (p : Pending)
    → AllByRecursion P (front ++ p ∷ rest) → P p × AllByRecursion P (front ++ rest)
each-out P [] rest p all = all
each-out P (x ∷ front) rest p all = let e = each-out P front rest p all.1 in (e.0, (all.0, e.1))

pub each-in : (P : Pending → Type 0) (front rest : List Pending) (p : Pending)
    → P p → AllByRecursion P (front ++ rest) → AllByRecursion P (front ++ p ∷ rest)
each-in P [] rest p own all = (own, all)
each-in P (x ∷ front) rest p own all = (all.0, each-in P front rest p own all.1)

pub each-map : {A : Type 0} (P Q : A → Type 0) (ps : List A) → ((p : A) → P p → Q p) → AllByRecursion P ps → AllByRecursion Q ps
each-map P Q [] f all = tt
each-map P Q (p ∷ ps) f all = (f p all.0, each-map P Q ps f all.1)

pub each-both : (P R Q : Pending → Type 0) (ps : List Pending) → ((p : Pending) → P p → R p → Q p)
    → AllByRecursion P ps → AllByRecursion R ps → AllByRecursion Q ps
each-both P R Q [] f all too = tt
each-both P R Q (p ∷ ps) f all too = (f p all.0 too.0, each-both P R Q ps f all.1 too.1)

pub none_at : (m : Member) (s : ℕ) (ps : List Pending) → tally m s ps ≡ 0 → AllByRecursion (λ p. at_slot m s p ≡ 0) ps
none_at m s [] none = tt
none_at m s (p ∷ ps) none = (omega arith, none_at m s ps (omega arith))

-- the same, under a condition
pub none_if : {X : Type 0} (m : Member) (s : ℕ) (ps : List Pending) → (X → tally m s ps ≡ 0) → AllByRecursion (λ p. X → at_slot m s p ≡ 0) ps
none_if m s [] none = tt
none_if m s (p ∷ ps) none = (λ x. let e = none x in omega arith, none_if m s ps (λ x. let e = none x in omega arith))

pub each-use : (P : Pending → Type 0) (k : LifeKey) (n : ℕ) (ps : List Pending) → P (pending (UseOf k) true Waits)
    → AllByRecursion P ps → AllByRecursion P (with_uses k n ps)
each-use P k zero ps own all = all
each-use P k (suc n) ps own all = (own, each-use P k n ps own all)

pub each-close : (P : Pending → Type 0) (k : LifeKey) (closes : Bool) (ps : List Pending) → P (pending (CloseOf k) true Waits)
    → AllByRecursion P ps → AllByRecursion P (with_close k closes ps)
each-close P k closes ps own all = grind arith

-- Files of slots.

-- the file of a slot's life: its open waits; its open has installed nothing; it is there; it was
-- taken; it is missing or was taken, and a file is there that the next life is to adopt
pub data Fate : Type 0 where
  Expected : Fate
  Missing : Fate
  There : Fate
  Gone : Fate
  Foreign : Fate

abbrev pub is_foreign : Fate → Bool
is_foreign Foreign = true
is_foreign fate = false

abbrev pub not_gone : Fate → Bool
not_gone Gone = false
not_gone Foreign = false
not_gone fate = true

-- the file is at the slot, and it alone was installed under the key
abbrev pub HasOne : Option File → List File → Type 0
HasOne at files = (f : File) × (at ≡ Some f) × (files ≡ f ∷ [])

-- what is at a slot, and what was installed under its key
abbrev pub Has : Fate → Option File → List File → Type 0
Has Expected at files = (at ≡ None) × (files ≡ [])
Has Missing at files = (at ≡ None) × (files ≡ [])
Has There at files = HasOne at files
Has Gone at files = at ≡ None
Has Foreign at files = Unit {0}

-- what was installed under the key of the slot's next life
abbrev pub NextHas : Fate → Option File → List File → Type 0
NextHas Foreign at files = HasOne at files
NextHas fate at files = files ≡ []

-- a call in flight at the slot
abbrev pub fits : DirectCall → CallStage → Fate → Bool
fits (OpenAt k) Waits Expected = true
fits (OpenAt k) Made There = true
fits (OpenAt k) Made Gone = true
fits (OpenAt k) Quit Missing = true
fits (UseOf k) Waits fate = not_gone fate
fits (UseOf k) Quit fate = true
fits (CloseOf k) Waits fate = not_gone fate
fits (CloseOf k) Made Gone = true
fits (CloseOf k) Made Foreign = true
fits (CloseOf k) Quit fate = not_gone fate
fits call stage fate = false

-- the completions of a chain
abbrev pub suits_open : Fate → ChainOpen → Bool
suits_open fate Unseen = true
suits_open There Installed = true
suits_open Gone Installed = true
suits_open Missing Failed = true
suits_open fate opened = false

abbrev pub suits_end : Fate → ChainEnd → Bool
suits_end fate Awaited = true
suits_end Gone Took = true
suits_end fate Took = false
suits_end fate end = not_gone fate

-- the phase of the slot
abbrev pub suits : Fate → Phase → Bool
suits Missing Free = true
suits Gone Free = true
suits Foreign Free = true
suits fate Opening = not_gone fate
suits There (Live requests users) = true
suits There (Ending requests users) = true
suits There Closing = true
suits Gone Closing = true
suits Foreign Closing = true
suits Foreign (Chained c) = false
suits fate (Chained c) = suits_open fate c.opened && suits_end fate c.end
suits fate p = false

-- the phase of a life that was reserved, and whose open wasn't seen, or that is chained
abbrev pub is_reserved : Phase → Bool
is_reserved Opening = true
is_reserved (Chained c) = true
is_reserved p = false

-- a file that is to be adopted is in the allocation range, and a life that was reserved isn't
abbrev pub Ranged : State → ℕ → Fate → Phase → Type 0
Ranged table s fate p = (is_foreign fate ≡ true → IsInRange table s) × (is_reserved p ≡ true → IsInRange table s → ⊥)

-- a request or a close that is linked
abbrev pub is_bound : DirectCall → Bool → Bool
is_bound (OpenAt k) linked = true
is_bound call linked = linked

-- the call is of the slot's life; while that is chained, its requests and its close are linked
abbrev pub FitsAt : Pending → ℕ → Slot → Fate → Type 0
FitsAt p size slot fate =
    (place_of p < size) × (slot.number ≡ (key_of_call p.call).number) × (fits p.call p.stage fate ≡ true)
    × (is_chained slot.phase ≡ true → is_bound p.call p.linked ≡ true)

-- the same facts, of equal things
pub fits_same : (p : Pending) {size size' : ℕ} {slot slot' : Slot} {fate fate' : Fate}
    → size' ≡ size → slot' ≡ slot → fate' ≡ fate → FitsAt p size slot fate → FitsAt p size' slot' fate'
fits_same p e1 e2 e3 fits = rw (e1, e2, e3) fits

pub has_same : {fate fate' : Fate} {at at' : Option File} {files files' : List File}
    → fate' ≡ fate → at' ≡ at → files' ≡ files → Has fate at files → Has fate' at' files'
has_same e1 e2 e3 has = rw (e1, e2, e3) has

pub next_same : {fate fate' : Fate} {at at' : Option File} {files files' : List File}
    → fate' ≡ fate → at' ≡ at → files' ≡ files → NextHas fate at files → NextHas fate' at' files'
next_same e1 e2 e3 has = rw (e1, e2, e3) has

pub ranged_same : (table table' : State) (s : ℕ) (fate : Fate) (p : Phase) → table'.range ≡ table.range → Ranged table s fate p → Ranged table' s fate p
ranged_same table table' s fate p e ranged = rw e ranged

pub not_true : (b : Bool) → (b ≡ true → ⊥) → b ≡ false
not_true b wrong = grind arith

pub left_plain : (f : Fate) → not_gone f ≡ true → is_foreign f ≡ false
left_plain f left = grind arith

pub next_none : (f : Fate) (at : Option File) (files : List File) → is_foreign f ≡ false → NextHas f at files → files ≡ []
next_none f at files plain has = grind arith

pub none_next : (f : Fate) (at : Option File) (files : List File) → is_foreign f ≡ false → files ≡ [] → NextHas f at files
none_next f at files plain none = grind arith

-- A file that the kernel puts at a slot which it chooses.

pub chosen_plain : (f : Fate) (at : Option File) (files : List File) → NextHas f at files → at ≡ None → is_foreign f ≡ false
chosen_plain f at files has empty = grind arith

pub chosen_gone : (f : Fate) (p : Phase) (at : Option File) (files : List File) → suits f p ≡ true → is_reserved p ≡ false → is_foreign f ≡ false → at ≡ None → Has f at files
    → (f ≡ Missing) ⊎ (f ≡ Gone)
chosen_gone f p at files suit free plain empty has = grind arith

pub chosen_counts : (f : Fate) (p : Phase) → suits f p ≡ true → is_reserved p ≡ false → (f ≡ Missing) ⊎ (f ≡ Gone)
    → (count_in Open p ≡ 0) × (count_in Request p ≡ 0) × (f ≡ Missing → count_in CloseMember p ≡ 0)
chosen_counts f p suit free gone = grind arith

-- a free slot that has a file
pub adopted_foreign : (f : Fate) (p : Phase) (at : Option File) (files : List File) (file : File) → suits f p ≡ true → p ≡ Free → at ≡ Some file → Has f at files → f ≡ Foreign
adopted_foreign f p at files file suit free full has = grind arith

-- Phases and files.

-- the calls of a chain's phase are those of the chain
pub count_chain : (m : Member) (n : ℕ) (opened : ChainOpen) (end : ChainEnd)
    → count_in m (chain_phase n opened end) ≡ count_in m (Chained (chain n opened end))
count_chain m n opened end = grind arith

-- an open waits: the phase counts it
pub expected_opens : (p : Phase) → suits Expected p ≡ true → bit (is_opening p) ≡ 1
expected_opens p suit = grind arith

-- a request or a close of a life that isn't chained has a file
pub unchained_due : (p : Phase) → suits Expected p ≡ true → 0 < requests_in p + bit (is_closing p) → is_chained p ≡ true
unchained_due p suit busy = grind arith

-- Calls whose file changes.

pub same_keys : (j k : LifeKey) → j.slot ≡ k.slot → j.number ≡ k.number → same_key j k ≡ true
same_keys j k e n = rw (eq-eqb j.slot k.slot e, eq-eqb j.number k.number n) refl

-- the close is done
pub closed_fits : (call : DirectCall) (stage : CallStage) (k : LifeKey) → fits call stage There ≡ true → is_member CloseMember call ≡ 0
    → (waits_for (CloseOf k) call stage ≡ false) ⊎ (is_member Request call ≡ 0) → same_key (key_of_call call) k ≡ true → fits call stage Gone ≡ true
closed_fits call stage k fit other turn same = grind arith
