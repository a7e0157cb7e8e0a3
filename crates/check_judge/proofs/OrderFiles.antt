-- The files that an order installs, closes and leaves.
use Rattle.check_judge.proofs.Words.{◌≡◌, inl, inr, ⊎_elim, ℕ, ◌+◌, ◌<◌, ◌≤◌, List, [], ◌∷◌, ◌++◌, length, arith, flat_map, FileEntry, Mark}
use Rattle.check_judge.proofs.Words.{Submitted, Completed, next_member, first_member, severs, Asked, Place, accesses_of_chain, Access, ChainAccess}
use Rattle.check_judge.proofs.Words.{IsRequestDone, IsChainDone, AreChainsDone, either_way, by_equality, Installed, OneInstalled, Closed, sym, ap}
use Rattle.check_judge.proofs.Words.{◌∙◌, ◌^◌, All, Contains, subst, All-map, AreInRange, IsFileInRange, IsAccepted, IsChain, members_of, runs_of}
use Rattle.check_judge.proofs.Words.{Chain, each_all, RingState, Reported, accesses_of, RingSlots, IsOneOrder, table_of, ring_with_slots, AreFrom}
use Rattle.check_judge.proofs.Words.{IsFileAtSlot, MayBeClosed, ◌⊎◌, All-weaker, MayCloseAll, removes_contained, files_removed_in, fault_of}
use Rattle.check_judge.proofs.Words.{IsRingKept, MOST_SUBMISSIONS, None, false, zero, suc, map, drop, refl, Some, slice_index_or, length-map}
use Rattle.check_judge.proofs.Words.{slice_get-get_or, is_lt, name_at, all_completed, all_asked, Slots, named_close_of, named_close, named_closes}
use Rattle.check_judge.proofs.Words.{ClosedLine, AreApart, name_of, drop_all, get_or-map, get_or_default, HasDistinctMarks, each_placed}
use Rattle.check_judge.proofs.Words.{Contains-permutation, IsPermutation-sym, Request, chains_of, accepted-chains, members-are-runs, are_runs}
use Rattle.check_judge.proofs.Words.{length-done, each_closed_file_is_known, in_limits, Has, has_either, left_from, placed, placed-append}
use Rattle.check_judge.proofs.Words.{removed_from}
use Rattle.check_lines.proofs.Marks.{neither_below, same_cmp}
use Rattle.fx_base.specs.CloseList.{IsInOrderOfMark}
use Rattle.fx_chain.specs.declared.completion.Completion.{Completion}
use Rattle.fx_order.proofs.PlacedNew.{AnyPlace, InLimits, chain_places, has_in_chain}
use Rattle.fx_order.specs.Laws.{AreKnown, IsOfNext, IsThere}
use Rattle.fx_table.specs.declared.limits.TheConstants.{MAX_CHAINS}
use Rattle.fx_base.proofs.Marks.{same_cmp as derived_cmp}
use Rattle.fx_base.specs.contracts.mark.MarkOrd.TheImpl.{ghosts}

module _ (s : ℕ) (f : Closed) where
  abbrev Places : List Access → Type 0
  Places accesses = Has (placed accesses) s f

  none_placed : (accesses : List Access) → accesses ≡ [] → Places accesses → ⊥
  none_placed accesses is has = rw is at has

  request_installed : (catalogue : List FileEntry) (size : ℕ) (place : Place) (request : Asked) (accesses : List Access) (c : Completed)
      → IsRequestDone catalogue size place request.operation accesses c → Places accesses → Installed request c f.mark
  request_installed catalogue size place request accesses c x has = grind (arith, each_placed)

  module _ (catalogue : List FileEntry) (size : ℕ) where
    chain_installed : (place : Place) (requests : List Asked) (accesses : List Access) (cs : List Completed) → Places accesses
        → IsChainDone catalogue size place requests accesses cs → OneInstalled requests cs f.mark
    chain_installed place [] accesses cs has x = absurd (none_placed accesses x.0 has)
    chain_installed place (r ∷ rs) accesses cs has x =
        rw x.5 (⊎_elim
        (λ here. inl (request_installed catalogue size place r x.0 x.2 x.6 here))
        (λ later. inr (either_way {R = OneInstalled rs x.3 f.mark} (severs r x.2) (λ _ y. absurd (none_placed x.1 y.0 later))
        (λ _ y. chain_installed (next_member place) rs x.1 x.3 later y) x.7))
        (has_either (placed x.0) (placed x.1) s f (rw (x.4, placed-append x.0 x.1) at has)))

front_installed : (requests more : List Asked) (cs others : List Completed) (mark : Mark) → OneInstalled requests cs mark
    → OneInstalled (requests ++ more) (cs ++ others) mark
front_installed (r ∷ rs) more (c ∷ cs) others mark one =
    ⊎_elim (λ here. inl here) (λ later. inr (front_installed rs more cs others mark later)) one
front_installed requests more cs others mark one = absurd one

behind_installed : (requests more : List Asked) (cs others : List Completed) (mark : Mark) → length cs ≡ length requests
    → OneInstalled more others mark → OneInstalled (requests ++ more) (cs ++ others) mark
behind_installed [] more [] others mark same one = one
behind_installed (r ∷ rs) more (c ∷ cs) others mark same one = inr (behind_installed rs more cs others mark (omega arith) one)
behind_installed requests more cs others mark same one = absurd (omega arith)

pub chains_installed : (s : ℕ) (f : Closed) (catalogue : List FileEntry) (size submission first : ℕ) (runs : List (List Asked)) (order : List ChainAccess)
    (cs : List Completed) → AreChainsDone catalogue size submission first runs order cs → {c : ℕ} → first ≤ c → c < first + length runs
    → Has (placed (accesses_of_chain c order)) s f → OneInstalled (flat_map (λ run. run) runs) cs f.mark
chains_installed s f catalogue size submission first [] order cs x low high has = absurd (omega arith)
chains_installed s f catalogue size submission first (run ∷ runs) order cs x {c} low high has =
    rw x.2
    (by_equality c first (λ _. OneInstalled (run ++ flat_map (λ r. r) runs) (x.0 ++ x.1) f.mark)
    (λ same. front_installed run (flat_map (λ r. r) runs) x.0 x.1 f.mark
    (chain_installed s f catalogue size (first_member submission first) run (accesses_of_chain first order) x.0 (rw same at has) x.3))
    (λ other. behind_installed run (flat_map (λ r. r) runs) x.0 x.1 f.mark
    (length-done catalogue size (first_member submission first) run (accesses_of_chain first order) x.0 x.3)
    (chains_installed s f catalogue size submission (first + 1) runs order x.1 x.4 (omega arith) (omega arith) has)))

-- The files that an order closes, and those that it leaves.

-- the runs of an accepted submission are short
pub short_runs : (asked : List Asked) → IsAccepted asked → All (λ run. length run ≤ 16) (runs_of asked)
short_runs asked accepted =
    subst (All (λ (run : List Asked). length run ≤ 16)) (members-are-runs asked)
    (All-map (λ (run : List Asked). length run ≤ 16) (members_of asked) (chains_of (runs_of asked))
    (All-weaker (IsChain asked) (λ (chain : Chain). length (members_of asked chain) ≤ 16) (λ chain of. of.run.members)
    (chains_of (runs_of asked)) (accepted-chains asked accepted)))

-- a file of a member whose numbers are small
of_member : {file : Closed} {s c m e : ℕ} → file.mark ≡ Submitted s c m e → file.tag ≡ 0 → s < 2 ^ 32 → c < 2 ^ 32 → m < 2 ^ 32 → e < 2 ^ 32
    → IsFileInRange file
of_member is untagged submission chain member entry = grind arith

-- an accepted submission that is counted, at a ring that is kept
pub record IsCounted (catalogue : List FileEntry) (old : RingSlots) (asked : List Asked) : Type 0 where
  pub kept : IsRingKept catalogue old
  pub accepted : fault_of asked ≡ None
  pub few : old.submissions < MOST_SUBMISSIONS
  pub short : length (runs_of asked) ≤ MAX_CHAINS

module _ {catalogue : List FileEntry} {old : RingSlots} {asked : List Asked} (s : IsCounted catalogue old asked) {report : Reported}
    {left : RingState} (one : IsOneOrder (ring_with_slots catalogue old) asked report left) where
  abbrev before : RingState
  before = ring_with_slots catalogue old

  abbrev known : AreKnown before asked report.closes.files
  known = each_closed_file_is_known before asked report left s.kept.is_ring s.accepted one

  may_close : {file : Closed} → IsThere before file ⊎ IsOfNext before asked file → MayBeClosed catalogue old.slots file
  may_close = grind arith

  pub may_close_all : MayCloseAll catalogue old.slots report.closes.files
  may_close_all = record {
    each = each_all (MayBeClosed catalogue old.slots) report.closes.files (λ file has. may_close (known.from file has));
    in_order = one.is.closed.in_order;
    distinct = known.distinct;
  }

  -- each file that the order places was installed by a request
  placed_installed : (slot : ℕ) (f : Closed) → Has (placed (accesses_of one.order)) slot f → OneInstalled asked report.completions f.mark
  placed_installed slot f has =
      let at = has_in_chain (length catalogue) AnyPlace report.submission (length (runs_of asked)) one.order one.is.chains slot f has in
      grind (arith, are_runs, chains_installed)

  pub are_from : AreFrom old.slots asked report.completions report.closes.files
  are_from = each_all (λ file. IsFileAtSlot old.slots file ⊎ OneInstalled asked report.completions file.mark) report.closes.files (λ file has.
      let xs : List Access = accesses_of one.order in
      let w = removed_from (table_of before) xs file one.is.permitted (removes_contained xs file
      (Contains-permutation report.closes.files (files_removed_in xs) file (IsPermutation-sym (files_removed_in xs) report.closes.files one.is.closed.same_files) has)) in
      ⊎_elim (λ was. inl (w.slot, was)) (λ new. inr (placed_installed w.slot file new)) w.was)

  next_in_range : {file : Closed} → IsOfNext before asked file → IsFileInRange file
  next_in_range next = grind (arith, of_member)

  pub closed_in_range : (file : Closed) → Contains report.closes.files file → IsFileInRange file
  closed_in_range file has = ⊎_elim (λ there. s.kept.in_range there.0 file there.2) (λ next. next_in_range next) (known.from file has)

  placed_in_range : (slot : ℕ) {f : Closed} → Has (placed (accesses_of one.order)) slot f → IsFileInRange f
  placed_in_range slot {f} has =
      let at = has_in_chain (length catalogue) AnyPlace report.submission (length (runs_of asked)) one.order one.is.chains slot f has in
      let high = at.2 in
      let own = chain_places catalogue (length old.slots.at.items) InLimits report.submission 1 (runs_of asked) one.order report.completions
      (in_limits asked s.accepted) one.is.done at.0 at.1 (omega arith) in
      let (m, j, low, b, n) = own.0 slot f at.3 in
      let members = b.0 in
      let listed = b.1 in
      let numbered = one.is.submission in
      of_member n.mark n.untagged (omega arith) (omega arith) (omega arith) (omega arith)

  -- the files that the order leaves
  pub left_in_range : AreInRange left.at
  left_in_range slot file at =
      ⊎_elim (λ was. s.kept.in_range slot file was) (λ new. placed_in_range slot new)
      (left_from (table_of before) (accesses_of one.order) slot file (sym (ap (λ (r : RingState). r.at slot) one.after) ∙ at))

-- Lines describe one list of files, or none.

-- an entry of the catalogue has its name
name_at_entry : (catalogue : List FileEntry) (entry : ℕ) → entry < length catalogue → name_at catalogue entry ≡ Some (name_of catalogue entry)
name_at_entry [] entry inside = absurd (omega arith)
name_at_entry (file ∷ catalogue) zero inside = refl
name_at_entry (file ∷ catalogue) (suc entry) inside = name_at_entry catalogue entry (omega arith)

module _ (catalogue : List FileEntry) (slots : Slots) (apart : AreApart catalogue slots) (file : Closed) (may : MayBeClosed catalogue slots file)
    (mark : Mark) (name : List ℕ) (marks : file.mark ≡ mark) (names : name_of catalogue file.entry ≡ name) where
  pub has_entry : name_at catalogue file.entry ≡ Some name
  has_entry = name_at_entry catalogue file.entry may.inside ∙ ap (λ (n : List ℕ). Some n) names

  pub same_entry : {entry : ℕ} → name_at catalogue entry ≡ Some name → entry ≡ file.entry
  same_entry {entry} is = apart.names.distinct entry file.entry name is has_entry

  -- where a file at a slot has the mark, it is that one
  pub same_file : {other : Closed} → other.mark ≡ mark → IsFileAtSlot slots other → other ≡ file
  same_file is there = grind arith

-- the line of one of several files
pub close_at : (catalogue : List FileEntry) (files : List Closed) (lines : List ClosedLine) {i : ℕ} {line : ClosedLine} (d : Closed)
    → named_closes catalogue files ≡ map named_close_of lines → i < length lines → line ≡ slice_index_or lines i line
    → (i < length files) × (named_close catalogue (slice_index_or files i d) ≡ named_close_of line)
close_at catalogue files lines {i} {line} d same inside is =
    let many = sym (length-map files (named_close catalogue)) ∙ ap length same ∙ length-map lines named_close_of in (
      omega arith,
      sym (get_or-map (named_close catalogue) files i d (named_close_of line) (omega arith))
          ∙ rw (same, get_or-map named_close_of lines i line (named_close_of line) inside, sym is),
    )

-- a file in order of mark isn't at or before the file before it
pub not_in_turn : (files : List Closed) {i : ℕ} (j : ℕ) (d e : Closed) → j + 1 ≡ i → i < length files
    → is_lt (ghosts.cmp (slice_index_or files j d).mark (slice_index_or files i e).mark) ≡ false → IsInOrderOfMark files → HasDistinctMarks files → ⊥
not_in_turn files {i} j d e next inside is up distinct =
    let x = slice_index_or files j d in
    let y = slice_index_or files (j + 1) d in
    let at : y ≡ slice_index_or files i e = ap (λ (n : ℕ). slice_index_or files n d) next ∙ get_or_default files i d e inside in
    let marks : x.mark ≡ y.mark = neither_below x y
    (ap is_lt (same_cmp x.mark y.mark ∙ sym (derived_cmp x.mark y.mark) ∙ ap (λ (file : Closed). ghosts.cmp x.mark file.mark) at) ∙ is)
    (ap is_lt (same_cmp y.mark x.mark) ∙ up j d (omega arith) (omega arith)) in
    let one : j ≡ j + 1 = distinct j (j + 1) x y (slice_get-get_or files j d (omega arith)) (slice_get-get_or files (j + 1) d (omega arith)) marks in
    absurd (omega arith)

none_there : (requests : List Request) (mark : Mark) → OneInstalled (all_asked requests) [] mark → ⊥
none_there [] mark one = one
none_there (r ∷ requests) mark one = one

-- past the completions there is none
pub none_installed : (requests : List Request) (completions : List Completion) (mark : Mark) {i : ℕ} → length completions ≤ i
    → OneInstalled (all_asked (drop i requests)) (all_completed (drop i completions)) mark → ⊥
none_installed requests completions mark {i} past one = none_there (drop i requests) mark (rw (drop_all i completions past) at one)
