-- A play goes on by some commands.
use Rattle.fx_script.proofs.Words.{◌≡◌, ℕ, List, length, sym, subst, Option, Bool, Asked, RingContents, RingState, ring_of, Instruction, MakesSparse}
use Rattle.fx_script.proofs.Words.{RegistersList, Unregisters, SetsRange, UpdatesRing, SubmitsAll, Prints, PrintsReport, ◌+◌, ◌<◌, ◌≤◌, [], ◌∷◌, ◌++◌}
use Rattle.fx_script.proofs.Words.{refl, ap, ◌∙◌, append_assoc, drop, take, slice_index_or, inl, inr, arith, append-nil, map-append, take-append-drop}
use Rattle.fx_script.proofs.Words.{take_all, IfErr-weaker, Appends, IfErr, Result, ring_files_in_order, instruction_of, instructions_of, PrintsAll}
use Rattle.fx_script.proofs.Words.{PrintsEnd, PrintsFirst, IsPlayFault, Writes, PlayFault, IfOk, Appends-nil, Appends-trans, IsOkAnd, OnOk}
use Rattle.std.specs.Bool.{MatchBool}
use Rattle.std.specs.Option.{MatchOption}
use Rattle.fx_chain.specs.declared.fault.CutFault.{CutFault}
use Rattle.fx_ring.proofs.Rings.{same_history}
use Rattle.fx_ring.specs.Registration.{removed_from}
use Rattle.fx_print.specs.Text.{refused_line, too_many_line}
use Rattle.std.proofs.lemmas.List.Sorted.{IsPermutation-refl}
use Rattle.std.proofs.Math.Seq.{drop-cons, take-add}
use Rattle.std.specs.List.Sorted.{IsPermutation}
use Rattle.fx_language.specs.declared.command.Command.{Command}

module _ (old same next : RingContents) (line : List ℕ) (is : ring_of same ≡ ring_of old) where
  -- the output of a submission, with this property of its report
  abbrev OnSubmit : Option CutFault → Bool → RingState → Type 0 → Type 0
  OnSubmit fault many ring reported = MatchOption fault (MatchBool many ((ring_of next ≡ ring) × (line ≡ too_many_line)) reported)
      (λ f. (ring_of next ≡ ring) × (line ≡ refused_line f))

  reports : (fault : Option CutFault) (many : Bool) (ring : RingState) {one other : Type 0} → (one → other)
      → OnSubmit fault many ring one → OnSubmit fault many ring other
  reports fault many ring f p = grind arith

  report_same : {asked : List Asked} → PrintsReport old asked next line → PrintsReport same asked next line
  report_same h1 = grind (arith, same_history)

  pub prints_same : (command : Instruction) → Prints old command next line → Prints same command next line
  prints_same (MakesSparse n) p = grind arith
  prints_same (RegistersList list tags) p = grind arith
  prints_same Unregisters p = grind arith
  prints_same (SetsRange off len) p = grind arith
  prints_same (UpdatesRing off list tags) p = grind (arith, removed_from)
  prints_same (SubmitsAll asked) p = grind (arith, reports, report_same)

-- A play goes on by some commands.

-- the known output of a play that ran out of memory, in other words
fault_maps : (fault : PlayFault) {one other : Type 0} → (one → other) → IsPlayFault fault one → IsPlayFault fault other
fault_maps fault f known = grind arith

-- the commands lead from one ring to another, and print this, one after another
abbrev pub PrintsUpTo : RingContents → List Instruction → RingContents → List ℕ → Type 0
PrintsUpTo ring [] last text = (last ≡ ring) × (text ≡ [])
PrintsUpTo ring (command ∷ commands) last text =
    (next : RingContents) × (line : List ℕ) × (others : List ℕ)
    × Prints ring command next line × (text ≡ line ++ others)
    × PrintsUpTo next commands last others

-- the output of some commands, and then that of the later ones
behind : (next : RingContents) (others : List ℕ) (P : RingContents → List Instruction → List ℕ → Type 0)
    → ((ring then : RingContents) (command : Instruction) (commands : List Instruction) (line rest : List ℕ) → Prints ring command then line
    → P then commands rest → P ring (command ∷ commands) (line ++ rest))
    → (front back : List Instruction) (ring : RingContents) (text : List ℕ) → PrintsUpTo ring front next text → P next back others
    → P ring (front ++ back) (text ++ others)
behind next others P step [] back ring text (end, none) more =
    subst (λ (z : RingContents × List ℕ). P z.0 back (z.1 ++ others)) (λ i. (end i, sym none i)) more
behind next others P step (command ∷ front) back ring text (then, line, rest, prints, parts, goes_on) more =
    subst (P ring (command ∷ (front ++ back))) (sym (ap (λ (t : List ℕ). t ++ others) parts ∙ append_assoc line rest others))
    (step ring then command (front ++ back) line (rest ++ others) prints (behind next others P step front back then rest goes_on more))

prints_nothing : (now : RingContents) (left : List Instruction) → PrintsFirst now left []
prints_nothing now [] = refl
prints_nothing now (command ∷ commands) = inl refl

-- the first `i` commands were played: the output is their text
pub record HasPlayed (ring now : RingContents) (commands : List Command) (i : ℕ) (before known : Option (List ℕ)) : Type 0 where
  pub written : Writes (PrintsUpTo ring (instructions_of (take i commands)) now) before known

module _ {ring now : RingContents} {commands : List Command} {i : ℕ} {before known : Option (List ℕ)}
    (played : HasPlayed ring now commands i before known) where
  abbrev front : List Instruction
  front = instructions_of (take i commands)

  abbrev back : List Instruction
  back = instructions_of (drop i commands)

  abbrev text : List ℕ
  text = played.written.0

  -- with what was written since
  since : {P Q : List ℕ → Type 0} (written : Option (List ℕ)) → ((line : List ℕ) → P line → Q (text ++ line))
      → Writes P known written → Writes Q before written
  since written goes h3 = grind (arith, Appends-trans)

  -- and one more
  pub one_more : {next : RingContents} {written : Option (List ℕ)} {command : Command} → i < length commands
      → command ≡ slice_index_or commands i command → Writes (Prints now (instruction_of command) next) known written
      → HasPlayed ring next commands (i + 1) before written
  one_more {next} {written} {command} inside is more = record {
    written =
        let first : command ∷ [] ≡ take 1 (drop i commands) =
        ap (λ (c : Command). c ∷ []) is ∙ ap (take 1) (sym (drop-cons commands i command inside)) in
        since written (λ line prints. subst (λ (l : List Instruction). PrintsUpTo ring l next (text ++ line))
        (sym (map-append instruction_of (take i commands) (command ∷ []))
        ∙ ap instructions_of (ap (λ (l : List Command). take i commands ++ l) first ∙ sym (take-add i 1 commands)))
        (behind now line (λ r l t. PrintsUpTo r l next t) (λ r then command l line rest prints more. (then, line, rest, prints, refl, more))
        front (instruction_of command ∷ []) ring text played.written.1 (next, line, [], prints, sym (append-nil line), (refl, refl)))) more;
  }

  -- and the end, on a ring that shows the same
  pub ends : {last : RingState} → length commands ≤ i → last ≡ ring_of now → (written : Option (List ℕ)) → Writes (PrintsEnd last) known written
      → Writes (PrintsAll ring (instructions_of commands)) before written
  ends all same written = since written (λ line prints. subst (λ (l : List Instruction). PrintsAll ring l (text ++ line))
      (append-nil front ∙ ap instructions_of (take_all i commands all))
      (behind now line PrintsAll (λ r then command l line rest prints more. (then, line, rest, prints, refl, more)) front [] ring text
      played.written.1 (subst (λ (r : RingState). PrintsEnd r line) same prints)))

  -- or the play ended early after them, and nothing was written since
  pub fails : (fault : PlayFault) (written : Option (List ℕ)) → IsPlayFault fault (written ≡ known)
      → IsPlayFault fault (Writes (PrintsFirst ring (instructions_of commands)) before written)
  fails fault written = fault_maps fault (λ same.
      since written (λ line none. subst (λ (l : List Instruction). PrintsFirst ring l (text ++ line))
      (sym (map-append instruction_of (take i commands) (drop i commands)) ∙ ap instructions_of (take-append-drop i commands))
      (behind now line PrintsFirst (λ r then command l line rest prints more. inr (then, line, rest, prints, refl, more)) front back ring text
      played.written.1 (subst (PrintsFirst now back) (sym none) (prints_nothing now back))))
      ([], refl, subst (λ (w : Option (List ℕ)). Appends known w []) (sym same) (Appends-nil known)))

-- a text that was written
pub text_written : {S E : Type 0} (bytes : S → List ℕ) (P : List ℕ → Type 0) (before written : Option (List ℕ)) (text : Result S E)
    → IfOk text (λ t. P (bytes t)) → IsOkAnd text (λ t. Appends before written (bytes t)) → Writes P before written
text_written bytes P before written text is appended = grind arith

pub known_ok : {S E A : Type 0} (P : S → Type 0) (text : Result S E) → IsOkAnd text P → OnOk text A → A
known_ok P text is known = grind arith

-- the output is a text of another kind, too
pub written_as : {P Q : List ℕ → Type 0} (before written : Option (List ℕ)) → ((text : List ℕ) → P text → Q text)
    → Writes P before written → Writes Q before written
written_as before written so (line, is, appended) = (line, so line is, appended)

pub fails_as : {A P Q : Type 0} (r : Result A PlayFault) → (P → Q) → IfErr r (λ fault. IsPlayFault fault P) → IfErr r (λ fault. IsPlayFault fault Q)
fails_as {P} {Q} r so = IfErr-weaker r (λ fault. IsPlayFault fault P) (λ fault. IsPlayFault fault Q) (λ fault. fault_maps fault so)

-- without a table no file is left
pub nothing_left : (ring : RingState) → ring.size ≡ 0 → PrintsEnd ring []
nothing_left ring none = (
  record { files = []; room = 0 },
  record {
    same_files = subst (λ (n : ℕ). IsPermutation (ring_files_in_order ring.at n) []) (sym none) (IsPermutation-refl []);
    in_order = λ k d low high. absurd (omega arith);
  },
  refl,
)
