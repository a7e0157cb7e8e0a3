-- The files that the members of a chain install: of the catalogue, each with a mark of its own.
use Rattle.fx_ring.proofs.Words.{installed_by, ◌≡◌, ◌≢◌, ℕ, zero, suc, ◌+◌, ◌<◌, ◌≤◌, ℤ, pos, negsuc, false, List, [], ◌∷◌, length, sym, ap, subst}
use Rattle.fx_ring.proofs.Words.{Option, Some, None, arith, list_any, FileEntry, Errno, Mark, Submitted, ◌▷◌, File, Action, Answers, AnswersAtTable}
use Rattle.fx_ring.proofs.Words.{OpensAt, AppliesEntry, AppliesList, Refuses, installed, is_bad_entry, Completed, next_member, Explains, severs}
use Rattle.fx_ring.proofs.Words.{Operation, Asked, Place, Target, either_case, either_option, or_parts, applied}
use Rattle.fx_ring.proofs.MarksApart.{Puts, puts_then, puts_so, puts_none, puts_one, puts_may_close}
use Rattle.fx_base.proofs.Entries.{entry_named}
use Rattle.fx_chain.specs.Refusal.{refusal_of}

-- a file of the catalogue, by its mark
abbrev pub IsMarked : ℕ → Mark → File → Type 0
IsMarked entries mark f = (f.identity.mark ≡ mark) × (f.identity.entry < entries)

-- the file is of one of the places of a list from this one on, and the request is at this place
abbrev IsListed : ℕ → Place → ℕ → File → Type 0
IsListed entries place low f = (j : ℕ) × (low ≤ j) × IsMarked entries (Submitted place.submission place.chain place.member j) f

-- the file is of one of the members of a chain from this one on
abbrev pub IsOfMembers : ℕ → Place → File → Type 0
IsOfMembers entries place f = (m : ℕ) × (j : ℕ) × (place.member ≤ m) × IsMarked entries (Submitted place.submission place.chain m j) f

no_file : (P : File → Type 0) (f : File) → ◌≡◌ {A = Option File} None (Some f) → P f
no_file P f is = cc

abbrev place_of : Completed → Place
place_of c = c.place

-- the completion is at the place, and the steps install such files
pub record Gives (place : Place) (P : File → Type 0) (events : List Action) (c : Completed) : Type 0 where
  pub at : c.place ≡ place
  pub puts : Puts P events

module _ (catalogue : List FileEntry) (place : Place) where
  abbrev entries : ℕ
  entries = length catalogue

  abbrev Here : ℕ → File → Type 0
  Here j f = IsMarked entries (Submitted place.submission place.chain place.member j) f

  abbrev Listed : ℕ → File → Type 0
  Listed low f = IsListed entries place low f

  -- the step that installs it
  installs_here : {j entry : ℕ} {f : File} (a : Action) → installed_by a ≡ Some f → f.identity ≡ installed place j entry → entry < entries
      → Puts (Here j) ([] ▷ a)
  installs_here a new is inside = grind (arith, puts_one)

  refuses : {P : File → Type 0} (errno : Errno) {events : List Action} {c : Completed} → Refuses place errno events c → Gives place P events c
  refuses {P} errno it = record { at = ap place_of it.1; puts = subst (Puts P) (sym it.0) (puts_none P [] (λ f is. is)) }

  -- one step that installs nothing
  installs_nothing : {P : File → Type 0} (a : Action) {events : List Action} {c answer : Completed} → installed_by a ≡ None → events ≡ [] ▷ a
      → c ≡ answer → answer.place ≡ place → Gives place P events c
  installs_nothing a none is so h5 = grind (arith, puts_one, no_file)

  opens : {entry : ℕ} (target : Target) {events : List Action} {c : Completed} → entry < entries
      → OpensAt place entry target events c → Gives place (Here 0) events c
  opens target inside h3 = grind (arith, puts_may_close, installs_here, installs_nothing)

  applies_entry : {j : ℕ} (slot : ℕ) (z : ℤ) (events : List Action) → is_bad_entry entries z ≡ false → AppliesEntry place j slot z events
      → Puts (Here j) events
  applies_entry {j} slot (pos entry) events good (f, replaced, is, may) = grind (arith, puts_may_close, installs_here)
  applies_entry {j} slot (negsuc zero) events good (removed, may) = grind (arith, puts_may_close, puts_one, no_file)
  applies_entry {j} slot (negsuc (suc n)) events good is = subst (Puts (Here j)) (sym is) (puts_none (Here j) [] (λ f it. it))

  later_place : {j : ℕ} (f g : File) → Listed (j + 1) f → Here j g → f.identity.mark ≢ g.identity.mark
  later_place f g h3 h4 same = grind arith

  applies_list : (j slot : ℕ) (list : List ℤ) (events : List Action) → list_any (is_bad_entry entries) list ≡ false
      → AppliesList place j slot list events → Puts (Listed j) events
  applies_list j slot [] events good is = subst (Puts (Listed j)) (sym is) (puts_none (Listed j) [] (λ f it. it))
  applies_list j slot (z ∷ list) events good (own, others, is, one, more) =
      subst (Puts (Listed j)) (sym is) (puts_then (Here j) (Listed (j + 1)) (Listed j) own others (λ f at. (j, omega arith, at))
      (λ f at. (at.0, let le = at.1 in omega arith, at.2)) later_place (applies_entry slot z own (or_parts _ _ good).0 one)
      (applies_list (j + 1) (slot + 1) list others (or_parts _ _ good).1 more))

  -- a request that isn't refused
  at_table : (size : ℕ) (operation : Operation) {events : List Action} {c : Completed} → refusal_of catalogue size operation ≡ None
      → AnswersAtTable catalogue place operation events c → Gives place (Listed 0) events c
  at_table size operation accepted h4 =
      grind (arith, opens, entry_named, puts_so, refuses, installs_nothing, puts_may_close, puts_none, no_file, puts_one, applies_list, applied)

  pub answered : (size : ℕ) (operation : Operation) {events : List Action} {c : Completed} → Answers catalogue size place operation events c
      → Gives place (Listed 0) events c
  answered size operation it = either_option (refusal_of catalogue size operation) (at_table size operation) (λ errno. refuses errno) it

module _ (catalogue : List FileEntry) (size : ℕ) where
  later_member : {place : Place} (f g : File) → IsOfMembers (length catalogue) (next_member place) f → IsListed (length catalogue) place 0 g
      → f.identity.mark ≢ g.identity.mark
  later_member f g h3 h4 same = grind arith

  -- the steps of a chain install files of the catalogue with marks of its members, and no mark
  -- twice
  pub explained_puts : (place : Place) (requests : List Asked) (events : List Action) (completions : List Completed)
      → Explains catalogue size place requests events completions → Puts (IsOfMembers (length catalogue) place) events
  explained_puts place [] events completions it = grind (arith, puts_none)
  explained_puts place (request ∷ requests) events completions (own, others, c, cs, is, are, answers, behind) =
      let P : File → Type 0 = IsOfMembers (length catalogue) (next_member place) in
      subst (Puts (IsOfMembers (length catalogue) place)) (sym is)
      (puts_then (IsListed (length catalogue) place 0) P (IsOfMembers (length catalogue) place) own others
      (λ f at. (place.member, at.0, omega arith, at.2)) (λ f at. (at.0, at.1, let le = at.2 in omega arith, at.3)) later_member
      (answered catalogue place size request.operation answers).puts
      (either_case (severs request c) (λ cut. subst (Puts P) (sym cut.0) (puts_none P [] (λ f it. it)))
      (λ more. explained_puts (next_member place) requests others cs more) behind))
