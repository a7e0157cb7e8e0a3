-- Rings after a submission, and rings whose table is opened or closed.
use Rattle.fx_ring.proofs.Words.{common_steps, rules, ◌≡◌, ℕ, ◌+◌, ◌<◌, ◌≤◌, List, [], ◌∷◌, length, map, Contains, refl, sym, ap, subst, ◌∙◌, ⊎_elim}
use Rattle.fx_ring.proofs.Words.{inl, Some, arith, FileEntry, Closed, State, IsSettled, opening, state_of, action_of, closes_in, File, Event, Action}
use Rattle.fx_ring.proofs.Words.{Completed, by_equality, numbers_for, first_member, Asked, runs_of, RingContents, RingState, IsRing, IsAtRest, ◌-◌}
use Rattle.fx_ring.proofs.Words.{HasCounted, AreEntries, ring_of, with_table, ExplainsParts, Reported, IsOneHistory, MOST_SUBMISSIONS, ◌*◌, Contents}
use Rattle.fx_ring.proofs.Words.{All, ◌++◌, All-head, length-map, length-append, new_passes, Opening, state_at, PassView, IsIdle, new_pass, ring_with}
use Rattle.fx_ring.proofs.Words.{ClosesTable, same_size, MOST_SLOTS, MAX_CHAINS, IsOpenedFor, HasSameFiles, start_of, IsSettledSoFar, contains_none}
use Rattle.fx_ring.proofs.Words.{same_identity, ring_led_by, IsKeptOpen, IsAloneAt, MOST_MEMBERS, vec_capacity, contains_head, HoldsOfAll}
use Rattle.fx_ring.proofs.Words.{holds_of_closes, all_closes_in}
use Rattle.fx_ring.proofs.Rings.{counted_still, file_told, not_yet, opening_files, entries_closed, told_at, size_there, table_settled}
use Rattle.fx_ring.proofs.MarksApart.{IsPut, Puts, IsOfChain, part_actions, put_in_part, installed_put, whole_new, IsApart, IsUnlike, apart_after}
use Rattle.fx_ring.proofs.Installs.{IsOfMembers, explained_puts}
use Rattle.std.specs.Global.{Vec}
use Rattle.fx_ring.proofs.LonePlays.{at_rest_of}
use Rattle.fx_table.proofs.Histories.{own_history}

-- each chain's part of the history installs files of the catalogue with marks of its own, and no
-- mark twice
part_puts : (catalogue : List FileEntry) (size : ℕ) {submission : ℕ} (first : ℕ) (runs : List (List Asked)) (history : List Event)
    (completions : List Completed) → ExplainsParts catalogue size submission first runs history completions
    → {chain : ℕ} → first ≤ chain → chain < first + length runs
    → Puts (IsOfMembers (length catalogue) (first_member submission chain)) (part_actions chain history)
part_puts catalogue size first [] history completions explained low high = absurd (omega arith)
part_puts catalogue size {submission} first (run ∷ runs) history completions (own, others, parts, one, more) {chain} low high =
    by_equality chain first (λ _. Puts (IsOfMembers (length catalogue) (first_member submission chain)) (part_actions chain history))
    (grind (arith, explained_puts catalogue size (first_member submission first) run (part_actions first history) own one))
    (λ apart. part_puts catalogue size (first + 1) runs history others more (omega arith) (omega arith))

module _ (old new : RingContents) (requests : List Asked) (report : Reported) (is : IsRing (ring_of old))
    (one : IsOneHistory old requests report new) where
  abbrev before : RingState
  before = ring_of old

  abbrev behind : RingState
  behind = record (with_table (ring_of old) one.end) { submissions = old.submissions + 1 }

  abbrev start : State
  start = opening (state_of old.table) (numbers_for (length (runs_of requests)))

  abbrev actions : List Action
  actions = map action_of one.history

  -- the file is of the catalogue and has a mark that was counted before
  abbrev WasThere : File → Type 0
  WasThere f = HasCounted before f.identity.mark × (f.identity.entry < length old.catalogue)

  -- the file is of the catalogue and has a mark of this submission
  abbrev IsNew : File → Type 0
  IsNew f = (c : ℕ) × IsOfChain report.submission c f × (f.identity.entry < length old.catalogue)

  at_start : (slot : ℕ) {f : File} → start.at slot ≡ Some f → before.at slot ≡ Some f.identity
  at_start slot h2 = grind (arith, opening_files)

  parts : (e : Event) → Contains one.history e
      → Puts (IsOfMembers (length old.catalogue) (first_member report.submission e.chain)) (part_actions e.chain one.history)
  parts e there = let inside = one.chains e there in grind (arith, part_puts)

  put_is_new : (f : File) → IsPut actions f → IsNew f
  put_is_new f put = grind (arith, put_in_part, parts)

  unlike : IsUnlike WasThere actions
  unlike f g put was same = grind (arith, put_is_new, not_yet)

  -- each file that was there, or was installed, keeps its mark apart
  ended : IsApart WasThere actions one.end.at
  ended = subst (λ (st : State). IsApart WasThere actions st.at) (sym one.legal.leads.1) (apart_after WasThere start actions
      (grind (arith, at_start)) (whole_new report.submission one.history
      (λ e there. ((parts e there).1, λ f own. let member = (parts e there).0 f own in (member.0, member.1, member.3.0)))) unlike)

  put_counted : (f : File) → IsPut actions f → HasCounted behind f.identity.mark
  put_counted f put = grind (arith, put_is_new)

  -- its files are of the catalogue, with marks that are counted, and no two have one mark
  pub submitted_rings : IsRing (ring_of new)
  submitted_rings = subst IsRing (sym one.after) (record {
    entries = λ slot file at.
        let (f, there, told) = file_told (one.end.at slot) file at in
        subst (λ (x : Closed). x.entry < length old.catalogue) told (⊎_elim (λ was. was.1) (λ put. (put_is_new f put).2) (ended.from slot f there));
    counted = λ slot file at.
        let (f, there, told) = file_told (one.end.at slot) file at in
        subst (λ (x : Closed). HasCounted behind x.mark) told
        (⊎_elim (λ was. counted_still before behind f.identity.mark (omega arith) (omega arith) was.0) (put_counted f) (ended.from slot f there));
    distinct = λ slot other file same at at_other marks.
        let (f, there, told) = file_told (one.end.at slot) file at in
        let (g, also, said) = file_told (one.end.at other) same at_other in
        ended.distinct slot other f g there also (ap (λ (x : Closed). x.mark) told ∙ (marks ∙ sym (ap (λ (x : Closed). x.mark) said)));
  })

  closed_entries : AreEntries behind (closes_in actions)
  closed_entries =
      let P : File → Type 0 = λ f. f.identity.entry < length old.catalogue in
      let all : HoldsOfAll P start = grind (arith, at_start) in
      all_closes_in (λ (file : Closed). file.entry < length old.catalogue) one.history
      (holds_of_closes P start one.history all one.legal.leads.0 (λ f installed. (put_is_new f (installed_put one.history f installed)).2))

-- the files that it closed are of the catalogue
pub submitted_entries : {old new : RingContents} {requests : List Asked} {report : Reported} → IsRing (ring_of old)
    → IsOneHistory old requests report new → AreEntries (ring_of new) report.closes.files
submitted_entries {old} {new} {requests} {report} is one = subst (λ (ring : RingState). AreEntries ring report.closes.files) (sym one.after)
    (entries_closed (behind old new requests report is one) (closed_entries old new requests report is one) one.closed)

-- a ring at rest is at rest again after a submission
pub submitted_at_rest : {old new : RingContents} {requests : List Asked} {report : Reported} → IsAtRest old → IsOneHistory old requests report new
    → IsSettled (state_of new.table) → old.submissions < MOST_SUBMISSIONS → IsAtRest new
submitted_at_rest {old} {new} {requests} {report} rest one settled few =
    let submissions : new.submissions ≡ old.submissions + 1 = ap (λ (ring : RingState). ring.submissions) one.after in
    let registrations : new.registrations ≡ old.registrations = ap (λ (ring : RingState). ring.registrations) one.after in
    search (rules, submitted_rings)

-- A ring whose table is opened or closed has the same files.

-- the ring with a table of the same files
same_ring : (catalogue : List FileEntry) {o : Opening} {v : PassView} (left : Contents) (submissions registrations : ℕ) → IsSettledSoFar o v
    → HasSameFiles (state_at o v.own) (state_of left)
    → ring_of (ring_with catalogue left submissions registrations) ≡ ring_of (ring_led_by catalogue o v submissions registrations)
same_ring catalogue left submissions registrations settled files = grind (arith, size_there, told_at, at_rest_of)

closed_files : {o : Opening} {v : PassView} {left : Contents} → ClosesTable o (v ∷ []) left → HasSameFiles (state_at o v.own) (state_of left)
closed_files {o} {v} {left} closing = grind (arith, own_history v closing.history closing.authors (closing.own v (contains_head v [])))

new_settled : (o : Opening) → IsSettledSoFar o (new_pass 1)
new_settled o = grind (arith, contains_none)

module _ {P : Type 0} {V : P → PassView} {Fits : P → Type 0} {catalogue : List FileEntry} {o : Opening} {pass : P} {list : Vec P}
    {size left most submissions registrations : ℕ}
    (kept : IsKeptOpen V Fits catalogue o pass list size left most submissions registrations) where
  pub closed_ring : {plain : Contents} → ClosesTable o (V pass ∷ []) plain
      → (ring_of (ring_with catalogue plain submissions registrations) ≡ ring_of (ring_led_by catalogue o (V pass) submissions registrations))
      × IsAtRest (ring_with catalogue plain submissions registrations)
  closed_ring {plain} closing = grind (arith, same_ring catalogue plain submissions registrations kept.at.settled (closed_files closing))

  pub size_shown : size ≡ (ring_of (ring_led_by catalogue o (V pass) submissions registrations)).size
  size_shown = kept.slots ∙ sym (same_size (start_of o) (state_at o (V pass).own) _ kept.at.settled.legal.leads)
      ∙ sym (size_there (state_at o (V pass).own))

  -- after a submission of the pass
  module _ {now : P} (count : ℕ) {requests : List Asked} {report : Reported} (after : IsAloneAt V Fits o now)
      (few : count ≤ left) (few_submissions : submissions < MOST_SUBMISSIONS) (chain : (V now).chain ≡ (V pass).chain + count)
      (looked : (V pass).looks_left ≤ (V now).looks_left + count * MOST_MEMBERS)
      (one : IsOneHistory (ring_led_by catalogue o (V pass) submissions registrations) requests report
      (ring_led_by catalogue o (V now) (submissions + 1) registrations)) where
    pub kept_after : IsKeptOpen V Fits catalogue o now list size (left - count) most (submissions + 1) registrations
    kept_after = search (rules, submitted_at_rest, table_settled)

    pub entries_after : AreEntries (ring_of (ring_led_by catalogue o (V now) (submissions + 1) registrations)) report.closes.files
    entries_after = submitted_entries kept.rest.ring one

-- the only pass of a list
pub only_pass : {P : Type 0} (V : P → PassView) (Q : P → Type 0) {items : List P} (rest : List P) {pass : P} → items ≡ rest ++ pass ∷ []
    → map V items ≡ new_passes 1 → All Q items → (rest ≡ []) × (V pass ≡ new_pass 1) × Q pass
only_pass V Q [] {pass} is new ready = grind (arith, ap (map V) (sym is) ∙ new, All-head Q pass [] (subst (All Q) is ready))
only_pass V Q (p ∷ rest) {pass} is new ready = grind (arith, common_steps)

-- a table that was just opened
module _ {o : Opening} {plain : Contents} {chains most : ℕ} (opened : IsOpenedFor plain chains most 1 o) where
  opened_files : HasSameFiles (state_at o (new_pass 1).own) (state_of plain)
  opened_files = grind (arith, same_identity)

  module _ {catalogue : List FileEntry} {submissions registrations : ℕ} {v : PassView} (new : v ≡ new_pass 1) where
    pub opened_ring : ring_of (ring_led_by catalogue o v submissions registrations) ≡ ring_of (ring_with catalogue plain submissions registrations)
    opened_ring = grind (arith, same_ring catalogue plain submissions registrations (new_settled o) opened_files)

  pub kept_opened : {P : Type 0} (V : P → PassView) (Fits : P → Type 0) {catalogue : List FileEntry} {submissions registrations size : ℕ} {pass : P}
      {list : Vec P} → IsAtRest (ring_with catalogue plain submissions registrations) → V pass ≡ new_pass 1
      → size ≡ (state_of plain).size → size ≤ MOST_SLOTS → chains ≤ MAX_CHAINS → (list.items ≡ []) × (1 ≤ vec_capacity list)
      → Fits pass × IsIdle (V pass) → IsKeptOpen V Fits catalogue o pass list size chains most submissions registrations
  kept_opened V Fits {pass} was new slots few few_chains room ready = record {
    at = grind (arith, new_settled);
    place = room;
    slots = slots ∙ ap (λ (c : Contents). (state_of c).size) (sym opened.contents);
    chains = let none = ap (λ (v : PassView). v.chain) new in omega (arith, none, opened.chains);
    installs = opened.numbers.0;
    looks = let all = ap (λ (v : PassView). v.looks_left) new in omega (arith, all, few_chains);
    rest = assumption (table_settled (state_at o (V pass).own), subst IsRing (sym (opened_ring new)) was.ring, was);
  }
