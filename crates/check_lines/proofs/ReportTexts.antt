-- The lines of a report: completions, closed files and tags.
use Rattle.check_lines.proofs.Words.{◌≤◌, arith, Mark, IsCut, IsMarkInRange, Reported, FileEntry, List, None, ℕ, ◌∙◌, ◌≡◌, take, ◌++◌, ap, length}
use Rattle.check_lines.proofs.Words.{sym, All, Some, [], refl, ◌∷◌, true, subst, ◌<◌, get_or, ◌^◌, take_at, append-nil, append_assoc, flat_map, codes}
use Rattle.check_lines.proofs.Words.{decimal, AreAll, AreFirst, HasLength, HasNoCloses, IsCloseInRange, IsCompletionInRange, NamedClose, is_without}
use Rattle.check_lines.proofs.Words.{line_of_tag, named_line, IsReportBefore, Lines, ReadsReport, lines_of, lines_text, Completed, completion_line}
use Rattle.check_lines.proofs.Words.{mark_text, append_cancel_left, flat_map_more, All-tail, All-head, All-push, flat_map-map, StartsWith}
use Rattle.check_lines.proofs.Cuts.{parts_are, without_failing}
use Rattle.check_lines.proofs.Decimals.{decimal_without}
use Rattle.fx_base.specs.Name.{is_name}
use Rattle.fx_script.specs.Text.{report_text}

-- the first lines of a text, and the rest: whatever lines the text has, these are the first of them
pub record HasFirst {A : Type 0} (print : A → List ℕ) (fits : A → Type 0) (may : List A → List ℕ → Type 0) (text : List ℕ)
    (items : List A) (rest : List ℕ) : Type 0 where
  pub printed : text ≡ flat_map print items ++ rest
  pub fit : All fits items
  pub only : (others : List A) (behind : List ℕ) → All fits others → may others behind → text ≡ flat_map print others ++ behind
      → (later : List A) × (others ≡ items ++ later) × All fits later × (rest ≡ flat_map print later ++ behind)

module _ {A : Type 0} {print : A → List ℕ} {fits : A → Type 0} {may : List A → List ℕ → Type 0} {text : List ℕ} {items : List A} {rest : List ℕ}
    (before : HasFirst print fits may text items rest) where
  -- one line more
  pub next_line : {x : A} {next : List ℕ} → fits x → rest ≡ print x ++ next → ((behind : List ℕ) → may items behind → rest ≡ behind → ⊥)
      → ((y : A) (more : List ℕ) → fits y → rest ≡ print y ++ more → y ≡ x) → HasFirst print fits may text (items ++ x ∷ []) next
  next_line {x} {next} fits_x is goes_on only_x = record {
    printed = rw (← flat_map_more print [] items x, append_assoc, ← is) before.printed;
    fit = All-push fits items x before.fit fits_x;
    only = λ others behind fit ends same.
        let known = before.only others behind fit ends same in by_later others behind ends known.0 known.1 known.2 known.3;
  }
    where
      by_later : (others : List A) (behind : List ℕ) → may others behind → (later : List A) → others ≡ items ++ later → All fits later
          → rest ≡ flat_map print later ++ behind
          → (more : List A) × (others ≡ (items ++ x ∷ []) ++ more) × All fits more × (next ≡ flat_map print more ++ behind)
      by_later others behind ends [] whole fit left = absurd (goes_on behind (subst (λ l. may l behind) (whole ∙ append-nil items) ends) left)
      by_later others behind ends (y ∷ later) whole fit left =
          let parts = left ∙ append_assoc (print y) (flat_map print later) behind in
          let first = only_x y (flat_map print later ++ behind) (All-head fits y later fit) parts in (
            later,
            whole ∙ ap (λ (z : A). items ++ z ∷ later) first ∙ sym (append_assoc items (x ∷ []) later),
            All-tail fits y later fit,
            append_cancel_left (print x) next _ (sym is ∙ parts ∙ ap (λ (z : A). print z ++ (flat_map print later ++ behind)) first),
          )

  -- if no line is next, these are all
  pub no_next : ((y : A) (later : List A) (behind : List ℕ) → may (items ++ y ∷ later) behind → fits y
      → rest ≡ print y ++ (flat_map print later ++ behind) → ⊥) → AreFirst print fits may text items rest
  no_next none = record {
    printed = before.printed;
    fit = before.fit;
    only = λ others behind fit ends same. let known = before.only others behind fit ends same in by_later others behind ends known.0 known.1 known.2 known.3;
  }
    where
      by_later : (others : List A) (behind : List ℕ) → may others behind → (later : List A) → others ≡ items ++ later → All fits later
          → rest ≡ flat_map print later ++ behind → (others ≡ items) × (behind ≡ rest)
      by_later others behind ends [] whole fit left = (whole ∙ append-nil items, sym left)
      by_later others behind ends (y ∷ later) whole fit left =
          absurd (none y later behind (subst (λ l. may l behind) whole ends) (All-head fits y later fit)
          (left ∙ append_assoc (print y) (flat_map print later) behind))

-- a text that begins with a word isn't one that may follow all lines of that word
pub goes_on : (word : List ℕ) {rest : List ℕ} (tail : List ℕ) → rest ≡ word ++ tail → (behind : List ℕ) → ¬ (StartsWith behind word) → rest ≡ behind → ⊥
goes_on word tail begins behind over same = over (ap (take (length word)) (sym same ∙ begins) ∙ take_at word tail (length word) refl)

-- the text of a closed file's line after its word
pub tail_of_close : {rest tail : List ℕ} → rest ≡ codes "closed " ++ tail → (close : NamedClose) (more : List ℕ) → rest ≡ named_line close ++ more
    → tail ≡ mark_text close.mark ++ (32 ∷ (close.name ++ (10 ∷ more)))
tail_of_close {rest} {tail} begins close more same = append_cancel_left (codes "closed ") tail _ (sym begins ∙ same ∙ simp append_assoc)

pub tail_of_tag : {rest tail : List ℕ} → rest ≡ codes "tag " ++ tail → (tag : ℕ) (more : List ℕ) → rest ≡ line_of_tag tag ++ more
    → tail ≡ decimal tag ++ (10 ∷ more)
tail_of_tag {rest} {tail} begins tag more same = append_cancel_left (codes "tag ") tail _ (sym begins ∙ same ∙ simp append_assoc)

-- a name has no line end
pub name_without_end : (name : List ℕ) → is_name name ≡ true → is_without 10 name ≡ true
name_without_end name is = grind (arith, without_failing)

-- The lines of a report: those of its completions, then those of closed files, then those of tags.

-- the text of a report is that of its lines
pub printed_lines : (catalogue : List FileEntry) (report : Reported) → report_text catalogue report ≡ lines_text (lines_of catalogue report)
printed_lines catalogue report = simp flat_map-map

-- a tag is the number that its line is parsed as
pub one_tag : {rest tail front behind : List ℕ} {n : ℕ} → rest ≡ codes "tag " ++ tail → IsCut 10 tail front behind
    → ((m : ℕ) → m ≤ 18446744073709551615 → front ≡ decimal m → m ≡ n) → (tag : ℕ) (more : List ℕ) → tag < 2 ^ 64 → rest ≡ line_of_tag tag ++ more
    → (tag ≡ n) × (tail ≡ (decimal n ++ (10 ∷ [])) ++ more)
one_tag {n = n} begins cut parsed tag more fits same =
    let whole = tail_of_tag begins tag more same in
    let parts = parts_are cut (decimal tag) (10 ∷ more) (decimal_without 10 tag refl fits) refl whole in grind arith

-- the parts of a closed file's line
module _ {rest tail head : List ℕ} {mark : Mark} (begins : rest ≡ codes "closed " ++ tail) (is : head ≡ mark_text mark ++ (32 ∷ []))
    (parsed : (m : Mark) (more : List ℕ) → IsMarkInRange m → get_or more 0 32 ≡ 32 → tail ≡ mark_text m ++ more → m ≡ mark) where
  pub one_mark : (close : NamedClose) (more : List ℕ) → IsCloseInRange close → rest ≡ named_line close ++ more
      → (close.mark ≡ mark) × (tail ≡ head ++ (close.name ++ (10 ∷ more)))
  one_mark close more fits same =
      let whole = tail_of_close begins close more same in
      let first = parsed close.mark _ fits.mark refl whole in (first, rw (is, append_assoc, ← first) whole)

  module _ {next name end : List ℕ} (then : tail ≡ head ++ next) (cut : IsCut 10 next name end) where
    pub one_close : (close : NamedClose) (more : List ℕ) → IsCloseInRange close → rest ≡ named_line close ++ more
        → (close ≡ record { mark = mark; name = name }) × (10 ∷ more ≡ end)
    one_close close more fits same =
        let first = one_mark close more fits same in
        let parts = parts_are cut close.name (10 ∷ more) fits.name refl (append_cancel_left head next _ (sym then ∙ first.1)) in
        (λ i. record { mark = first.0 i; name = parts.0 i }, parts.1)

    pub close_is : {others : List ℕ} → end ≡ 10 ∷ others → rest ≡ named_line (record { mark = mark; name = name }) ++ others
    close_is ends = rw (begins, then, is, cut.split, ends) (simp append_assoc)

-- no line of a closed file follows them
no_closed_behind : (tags : List ℕ) {rest : List ℕ} → HasNoCloses rest → ¬ (StartsWith (flat_map line_of_tag tags ++ rest) (codes "closed "))
no_closed_behind [] none = none.no_closed
no_closed_behind (tag ∷ tags) none = grind arith

module _ {count : ℕ} {text : List ℕ} {cs : List Completed} {rest : List ℕ} {closed : List NamedClose} {left tags last : List ℕ}
    (first : AreFirst completion_line IsCompletionInRange (HasLength count) text cs rest)
    (second : AreFirst named_line IsCloseInRange (AreAll (codes "closed ")) rest closed left)
    (third : AreFirst line_of_tag (λ tag. tag < 2 ^ 64) (AreAll (codes "tag ")) left tags last) where
  abbrev found : Lines × List ℕ
  found = (record { completions = cs; closed = closed; tags = tags }, last)

  only_found : (other : Lines × List ℕ) → IsReportBefore count other → text ≡ lines_text other.0 ++ other.1 → other ≡ found
  only_found other fits same =
      let one = first.only other.0.completions _ fits.in_range.completions fits.each (rw append_assoc at same) in
      let two = second.only other.0.closed _ fits.in_range.closed (no_closed_behind other.0.tags fits.behind) (rw append_assoc at (sym one.1)) in
      grind arith

  pub no_report : (IsReportBefore count found → ⊥) → ReadsReport count text None
  no_report wrong other fits same = wrong (subst (IsReportBefore count) (only_found other fits same) fits)

  pub one_report : length cs ≡ count → HasNoCloses last → ReadsReport count text (Some found)
  one_report each behind = record {
    fits_value = record { each = each; in_range = record { completions = first.fit; closed = second.fit; tags = third.fit }; behind = behind };
    printed = rw (first.printed, second.printed, third.printed) (simp append_assoc);
    only = only_found;
  }
