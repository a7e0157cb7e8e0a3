-- The plays of a script go along with the text, command by command.
use Rattle.check_judge.proofs.{◌≡◌, ◌≤◌, List, sym, subst, IsAccepted, Asked, RingState, IsRing, ring_of, Reported, IsOneOrder}
use Rattle.check_judge.proofs.{each_order_is_a_history, NonePast, ring_with_files, shows_ring, ◌↔◌, ◌-◌, ℕ, ◌++◌, drop, length, length-append, take}
use Rattle.check_judge.proofs.{ap, ◌∙◌, arith, length-take-le, take-append-drop, FileEntry, RingContents, Instruction, Prints, RingSlots, BeginsWith}
use Rattle.check_judge.proofs.{IsMet, ContinuesText, IsStep, ring_with_slots, inl, inr, ⊎_elim, ◌⊎◌, Some, None, ENOMEM, MOST_SLOTS, LeadsNowhere}
use Rattle.check_judge.proofs.{table_of_slots, result_line, negated, AreInRange, IsRingKept, suc, ◌+◌, ◌<◌, [], ◌∷◌, refl, slice_index_or, Option}
use Rattle.check_judge.proofs.{append-nil, append_assoc, length-drop, option_to_list, take_all, instruction_of, instructions_of, MayPrintBy, LeadsTo}
use Rattle.check_judge.proofs.{Fault, Order, add-zero, zero-add, add-one, HasNoCloses, Meaning, MayPrintAllBy, PrintsAllBy, mapped_at, shown}
use Rattle.check_judge.proofs.{drop-drop}
use Rattle.check_judge.proofs.Words.{new_ring}
use Rattle.check_judge.specs.Judged.{IsBrokenFrom, IsJudged, IsJudgedFrom, MayPrintFront, PrintsBeginning}
use Rattle.check_judge.specs.declared.command.Met.{Met}
use Rattle.check_judge.specs.declared.command.Met.TheVariants.{Apart, Here}
use Rattle.check_judge.specs.declared.judgement.Judgement.{Judgement}
use Rattle.check_lines.proofs.Calls.{Answers, Fails, answers, called_registrations, called_ring, called_submissions, may_fail, never_fails}
use Rattle.check_lines.proofs.Calls.{not_failed, one_line_of}
use Rattle.check_lines.proofs.PlaysBegin.{command_begins, plays_begin}
use Rattle.check_lines.specs.Calls.{IsCall, IsLineOf, after_call, memory_word}
use Rattle.fx_language.specs.declared.command.Command.{Command}
use Rattle.fx_ring.proofs.SubmittedRing.{submitted_rings}
use Rattle.fx_script.specs.Play.{PrintsAll, PrintsEnd}
use Rattle.std.proofs.Math.Seq.{drop-append_seam, take-add, take-append_seam}

pub order_rings : {old left : RingState} {requests : List Asked} {report : Reported} → IsRing old → NonePast old.size old.at → old.size ≤ 256
    → IsAccepted requests → IsOneOrder old requests report left → IsRing left
order_rings {old} {left} {requests} {report} ring none few accepted one =
    let is : ring_of (ring_with_files old) ≡ old = shows_ring old none in
    let h = each_order_is_a_history (ring_with_files old) requests report left (subst (λ (r : RingState). r.size ≤ 256) (sym is) few) accepted
    (subst (λ (r : RingState). IsOneOrder r requests report left) (sym is) one) in
    subst IsRing h.1 (submitted_rings (ring_with_files old) h.0 requests report (subst IsRing (sym is) ring) h.2)

-- A command that prints one line alone, of those that a text begins with: the text leads where that
-- line leads.

pub rest_behind : {text line others : List ℕ} {count : ℕ} → BeginsWith text count line → text ≡ line ++ others → others ≡ drop count text
rest_behind {text} {line} {others} {count} found split =
    let size : length line ≡ count = ap length (sym found.is_line) ∙ length-take-le count text found.inside in rw (sym size, split, drop-append_seam)

-- this text is left after the line
pub begins_with : {text line : List ℕ} (rest : List ℕ) → text ≡ line ++ rest → BeginsWith text (length text - length rest) line
begins_with {text} {line} rest split =
    let sizes = length-append line rest in
    let all = ap length split in
    let size : length text - length rest ≡ length line = omega arith in
    record { inside = omega arith; is_line = ap (λ (n : ℕ). take n text) size ∙ ap (take (length line)) split ∙ take-append_seam line rest }

module _ (before : RingState) (command : Instruction) (text : List ℕ) where
  -- rings of this state may print the line, which leads to that ring, and no other line with which
  -- the text continues
  pub record PrintsOne (left : RingState) (line : List ℕ) : Type 0 where
    pub may : (ring next : RingContents) (printed : List ℕ) → ring_of ring ≡ before → ring_of next ≡ left → printed ≡ line
        → Prints ring command next printed
    pub only : (next : RingContents) (others : List ℕ) (g : ContinuesText before command text next others) → (ring_of next ≡ left) × (g.line ≡ line)

module _ (catalogue : List FileEntry) (old new : RingSlots) (command : Instruction) (text line : List ℕ)
    (one : PrintsOne (ring_with_slots catalogue old) command text (ring_with_slots catalogue new) line) where
  pub goes : (met : Met) → IsMet text line met → IsStep catalogue old command text met new
  goes (Here count) found =
      let next = shown catalogue new in (
        found.inside,
        (λ ring same. (next.0, next.1, one.may ring next.0 (take count text) same next.1 found.is_line)),
        (λ after others g.
            let is = one.only after others g in
            (is.0, rest_behind found (g.split ∙ ap (λ (l : List ℕ). l ++ others) is.1))),
      )
  goes (Apart expected) found = λ next others g. found others (g.split ∙ ap (λ (l : List ℕ). l ++ others) (one.only next others g).1)

-- The calls between submissions, and submissions that are refused: where a text leads that goes on
-- with what one prints, and what is kept of the ring.

module _ (catalogue : List FileEntry) (old : RingSlots) (command : Instruction) (text : List ℕ) (kept : IsRingKept catalogue old)
    (counts : IsCall old.submissions command) where
  abbrev before : RingState
  before = ring_with_slots catalogue old

  answers_at : (ring next : RingContents) (printed : List ℕ) → ring_of ring ≡ before
      → Prints ring command next printed ↔ (Answers before command (ring_of next) printed ⊎ Fails before command (ring_of next) printed)
  answers_at ring next printed same = grind (arith, answers)

  module _ (line : List ℕ) (recorded : IsLineOf before command line) where
    -- the text continues with the call's text if no allocation fails
    pub found : (new : RingSlots) {count : ℕ} → ring_with_slots catalogue new ≡ after_call before command → BeginsWith text count line
        → IsStep catalogue old command text (Here count) new
    found new {count} left begins = goes catalogue old new command text line (record {
      may = λ ring next printed same leads so. (answers_at ring next printed same).1 (inl (leads ∙ left, subst (IsLineOf before command) (sym so) recorded));
      only = λ next others g. ⊎_elim (λ a. (a.0 ∙ sym left, one_line_of command kept.is_ring a.1 recorded))
          (λ f. absurd (not_failed before command line (drop count text) others kept.few_slots f.0 f.1.0 recorded
          (ap (λ (l : List ℕ). l ++ drop count text) (sym begins.is_line) ∙ take-append-drop count text ∙ g.split
          ∙ ap (λ (l : List ℕ). l ++ others) f.1.2))) ((answers_at g.ring next g.line g.same).0 g.prints);
    }) (Here count) begins

    -- or it doesn't
    module _ (apart : (others : List ℕ) → text ≡ line ++ others → ⊥) where
      not_found : {next : RingContents} {others : List ℕ} (g : ContinuesText before command text next others)
          → Answers before command (ring_of next) g.line → ⊥
      not_found {next} {others} g a = apart others (g.split ∙ ap (λ (l : List ℕ). l ++ others) (one_line_of command kept.is_ring a.1 recorded))

      pub fails : {word : List ℕ} → memory_word before command ≡ Some word → (met : Met) → IsMet text (result_line word (negated ENOMEM)) met
          → IsStep catalogue old command text met old
      fails {word} may met =
          let (takes, none, is) = may_fail before command may in
          let lines = ap (λ (w : List ℕ). result_line w (negated ENOMEM)) is in
          goes catalogue old old command text (result_line word (negated ENOMEM)) (record {
            may = λ ring next printed same leads so. (answers_at ring next printed same).1 (inr (takes, (none, leads, so ∙ lines)));
            only = λ next others g. ⊎_elim (λ a. absurd (not_found g a)) (λ f. (f.1.1, f.1.2 ∙ sym lines))
                ((answers_at g.ring next g.line g.same).0 g.prints);
          }) met

      pub never : memory_word before command ≡ None → LeadsNowhere before command text
      never none next others g = grind (arith, not_found, never_fails, answers_at)

-- the properties of a ring that are kept hold after a call
pub call_keeps : (catalogue : List FileEntry) (old new : RingSlots) (command : Instruction) → IsRingKept catalogue old
    → ring_with_slots catalogue new ≡ after_call (ring_with_slots catalogue old) command → length new.slots.at.items ≤ MOST_SLOTS
    → (AreInRange (table_of_slots old.slots).at → AreInRange (table_of_slots new.slots).at) → IsRingKept catalogue new
call_keeps catalogue old new command kept left few fits = grind (arith, called_submissions, called_registrations, called_ring)

-- The plays of a script go along with the text, command by command.

pub next_instruction : (commands : List Command) {all : List Instruction} {done : ℕ} {command : Command} → instructions_of commands ≡ all
    → done < length commands → command ≡ slice_index_or commands done command → drop done all ≡ instruction_of command ∷ drop (done + 1) all
next_instruction commands {done} {command} same inside is = rw (sym same, add-one done) (mapped_at instruction_of commands done command inside is)

-- what commands are to print: the whole text, with the end of the script, or a beginning of it, and
-- leave this
pub data Aim : Type 0 where
  Whole : Aim
  Leaves : List ℕ → Aim

abbrev pub PrintsTo : Aim → RingContents → List Instruction → List ℕ → Type 0
PrintsTo Whole ring commands text = PrintsAll ring commands text
PrintsTo (Leaves left) ring commands text = PrintsBeginning ring commands text left

-- a ring of this state prints so
pub record CanPrint (aim : Aim) (state : RingState) (commands : List Instruction) (text : List ℕ) : Type 0 where
  pub ring : RingContents
  pub same : ring_of ring ≡ state
  pub prints : PrintsTo aim ring commands text

-- each ring of this state may print the whole text by these orders, or the text of the first
-- commands
abbrev pub MayPrintTo : Aim → RingState → List Instruction → List ℕ → List Order → Type 0
MayPrintTo Whole state commands text orders = MayPrintAllBy state commands text orders
MayPrintTo (Leaves left) state commands text orders = MayPrintFront state commands text

-- where the commands that are done have printed the text up to here, each play from a ring of the
-- first state that prints the text is at this state, and what may be printed of this state goes on
-- with what was printed
pub record GoesWith (start : RingState) (all : List Instruction) (text : List ℕ) (done at : ℕ) (orders : List Order) (now : RingState) : Type 0 where
  pub along : (aim : Aim) (more : ℕ) → CanPrint aim start (take (done + more) all) text → CanPrint aim now (take more (drop done all)) (drop at text)
  pub back : (aim : Aim) (commands : List Instruction) (others : List ℕ) (later : List Order) → MayPrintTo aim now commands others later
      → MayPrintTo aim start (take done all ++ commands) (take at text ++ others) (orders ++ later)

-- the first command, and those after it

parts : (aim : Aim) (ring : RingContents) (command : Instruction) (commands : List Instruction) {text : List ℕ}
    → PrintsTo aim ring (command ∷ commands) text → (next : RingContents) × (line : List ℕ) × (others : List ℕ)
    × Prints ring command next line × (text ≡ line ++ others) × PrintsTo aim next commands others
parts Whole ring command commands prints = prints
parts (Leaves left) ring command commands prints = prints

no_closes : (aim : Aim) (ring : RingContents) (commands : List Instruction) {text : List ℕ} → PrintsTo aim ring commands text → HasNoCloses text
no_closes Whole ring commands {text} prints = plays_begin ring commands text prints
no_closes (Leaves left) ring [] behind = behind.0
no_closes (Leaves left) ring (command ∷ commands) (next, line, others, prints, is, more) =
    subst HasNoCloses (sym is) (command_begins ring command next line prints (no_closes (Leaves left) next commands more))

one_before : (aim : Aim) {old new : RingState} (command : Instruction) (commands : List Instruction) (line text : List ℕ) (own : Option Order)
    (later : List Order) → MayPrintBy old command new line own → MayPrintTo aim new commands text later
    → MayPrintTo aim old (command ∷ commands) (line ++ text) (option_to_list own ++ later)
one_before Whole command commands line text own later may rest = λ ring same.
    let next = may ring same in (next.0, line, text, own, later, next.2, next.3, refl, refl, rest next.0 next.1)
one_before (Leaves left) command commands line text own later may rest = λ ring same.
    let next = may ring same in (next.0, line, text, next.2, refl, rest next.0 next.1)

-- without the orders
all_printed : (ring : RingContents) (commands : List Instruction) (text : List ℕ) (orders : List Order) → PrintsAllBy ring commands text orders
    → PrintsAll ring commands text
all_printed ring [] text orders by = by.0
all_printed ring (command ∷ commands) text orders by = (by.0, by.1, by.2, by.5, by.7, all_printed by.0 commands by.2 by.4 by.9)

pub at_start : (start : RingState) (all : List Instruction) (text : List ℕ) → GoesWith start all text 0 0 [] start
at_start start all text = record { along = λ aim more can. rw zero-add at can; back = λ aim commands others later may. may }

-- a judgement from a ring without a table is one on the script
pub judged_script : (script : Meaning) (text : List ℕ) (judgement : Judgement) → IsJudgedFrom (new_ring script.catalogue) script.commands text judgement
    → IsJudged script text judgement
judged_script script text judgement holds = grind (arith, all_printed)

module _ {start : RingState} {all : List Instruction} {text : List ℕ} {done at : ℕ} {orders : List Order} {now : RingState}
    (so_far : GoesWith start all text done at orders now) where
  whole : (n : ℕ) → length all ≤ n → (ring : RingContents) → ring_of ring ≡ start → PrintsAll ring all text → CanPrint Whole start (take n all) text
  whole n past ring same prints = record { ring = ring; same = same; prints = rw (take_all n all past) prints }

  behind : (aim : Aim) → CanPrint aim start (take done all) text → CanPrint aim now [] (drop at text)
  behind aim can = so_far.along aim 0 (rw add-zero can)

  printed : (aim : Aim) (commands : List Instruction) (others whole : List ℕ) → take done all ≡ commands → take at text ++ others ≡ whole
      → MayPrintTo aim now [] others [] → MayPrintTo aim start commands whole orders
  printed aim commands others whole same is may =
      rw (append-nil (take done all), same, is, append-nil orders) at (so_far.back aim [] others [] may)

  broken : (ring : RingSlots) (fault : Fault) → done ≤ length all → at ≤ length text
      → ((ring : RingContents) → ring_of ring ≡ start → PrintsAll ring all text → ⊥)
      → (done < length all → (left : List ℕ) → CanPrint (Leaves left) start (take (done + 1) all) text → ⊥)
      → IsBrokenFrom start all text (record { commands = done; at = at; ring = ring; fault = fault })
  broken ring fault counted inside none next = record {
    none = none;
    counted = counted;
    inside = inside;
    front = printed (Leaves []) (take done all) [] (take at text) refl (append-nil (take at text)) (λ ring same. refl);
    place = λ ring left starts prints. (behind (Leaves left) (record { ring = ring; same = starts; prints = prints })).prints.1;
    next = λ more ring left starts prints. next more left (record { ring = ring; same = starts; prints = prints });
  }

  module _ (is_all : done ≡ length all) where
    past : length all ≤ done
    past = omega arith

    pub not_ended : (ring : RingSlots) (fault : Fault) → at ≤ length text → (PrintsEnd now (drop at text) → ⊥)
        → IsBrokenFrom start all text (record { commands = done; at = at; ring = ring; fault = fault })
    not_ended ring fault inside never = broken ring fault (omega arith) inside
        (λ r same prints. let can = behind Whole (whole done past r same prints) in
        never (subst (λ (r : RingState). PrintsEnd r (drop at text)) can.same can.prints))
        (λ more left can. absurd (omega arith))

    pub ended : PrintsEnd now (drop at text) → MayPrintAllBy start all text orders
    ended end = grind (arith, Whole, past, printed Whole all (drop at text) text (take_all done all past) (take-append-drop at text))

  module _ {command : Instruction} (is : drop done all ≡ command ∷ drop (done + 1) all) where
    played : (aim : Aim) (more : ℕ) → CanPrint aim start (take (done + suc more) all) text
        → (next : RingContents) × (others : List ℕ) × ContinuesText now command (drop at text) next others
        × PrintsTo aim next (take more (drop (done + 1) all)) others
    played aim more can = grind (arith, parts, no_closes, so_far.along aim (suc more) can)

    pub stops : (ring : RingSlots) (fault : Fault) → at ≤ length text → LeadsNowhere now command (drop at text)
        → IsBrokenFrom start all text (record { commands = done; at = at; ring = ring; fault = fault })
    stops ring fault inside nowhere =
        let none : (aim : Aim) (more : ℕ) → CanPrint aim start (take (done + suc more) all) text → ⊥ =
        λ aim more can. let p = played aim more can in nowhere p.0 p.1 p.2 in
        let size = length-drop done all in
        let some = ap (λ (l : List Instruction). length l) is in
        let count = length all in
        broken ring fault (omega arith) inside
        (λ r same prints. none Whole count (whole (done + suc count) (omega arith) r same prints)) (λ more left. none (Leaves left) 0)

    pub goes_on : (count : ℕ) (own : Option Order) {grown : List Order} {new : RingState} → MayPrintBy now command new (take count (drop at text)) own
        → LeadsTo now command (drop at text) count new → grown ≡ orders ++ option_to_list own → GoesWith start all text (done + 1) (at + count) grown new
    goes_on count own {grown} {new} may leads grows = record {
      along = λ aim more can.
          let e : (done + 1) + more ≡ done + suc more = omega arith in
          let (next, others, goes, rest) = played aim more (rw e at can) in
          let there = leads next others goes in
          record { ring = next; same = there.0; prints = rw (there.1, drop-drop) at rest };
      back = λ aim commands others later rest.
          let line = take count (drop at text) in
          rw (grows, take-add at count text, take-add done 1 all, is)
          (simp append_assoc (so_far.back aim (command ∷ commands) (line ++ others) (option_to_list own ++ later)
          (one_before aim command commands line others own later may rest)));
    }
