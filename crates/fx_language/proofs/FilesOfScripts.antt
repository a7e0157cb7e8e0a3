-- Scripts: their printable words, their faults and their files.
use Rattle.std.proofs.Common.{◌≡◌, ℕ, ◌≤◌, Bool, true, false, nat_le, List, [], ◌∷◌, refl, arith, Result, Ok, Err, inl, inr, ap, ◌+◌, ◌<◌, nat_lt}
use Rattle.std.proofs.Common.{not, ◌++◌, length, subst, Option, option_and_then, ok_or, IfOk}
use Rattle.std.specs.Prelude.{◌==◌, ◌&&◌, if◌then◌else◌, IsAscii, IsUtf8, MatchResult, codes}
use Rattle.std.specs.Result.{IsOk, result_ok}
use Rattle.std.specs.List.{list_all, onto_first}
use Rattle.std.proofs.lemmas.Str.{IsUtf8-from_ascii}
use Rattle.std.proofs.lemmas.Str.Ascii.{IsAscii-nil, IsAscii-cons}
use Rattle.fx_language.specs.Lines.{is_printable, words, lines, is_skipped}
use Rattle.std.proofs.lemmas.Bool.{and_parts, leb-true, cond_both, leb-false, ltb-false, not-false}
use Rattle.fx_language.specs.Laws.{IsScriptOrFaulty}
use Rattle.fx_language.specs.Script.{Meaning, LineFault, reading_of, AreFiles, Progress, IsScript, after_file, after_line, after_text, after_texts}
use Rattle.fx_language.specs.Script.{at_end, is_late, line_fault_of, nothing, on_line, unless, with_named_file}
use Rattle.std.specs.Str.{bytes_eq}
use Rattle.std.proofs.lemmas.List.Elements.{All-nil, All-push}
use Rattle.hex.specs.Hex.{IsBytes, decode_of}
use Rattle.hex.specs.declared.error.FromHexError.{FromHexError}
use Rattle.hex.proofs.HexLemmas.{decode_of-ok}
use Rattle.fx_base.specs.AddFault.{has_name}
use Rattle.fx_base.specs.Catalogue.{FileEntry}
use Rattle.fx_base.specs.Name.{is_name}
use Rattle.fx_base.specs.declared.catalogue.AddFault.{AddFault}
use Rattle.fx_base.specs.declared.catalogue.TheConstants.{MOST_ENTRIES, LONGEST_ENTRY}
use Rattle.fx_base.proofs.Entries.{one_more}
use Rattle.fx_language.specs.declared.fault.ScriptFault.{ScriptFault}
use Rattle.fx_language.specs.declared.fault.ScriptFault.TheVariants.{BadHex}
use Rattle.fx_language.specs.declared.limits.TheConstants.{LONGEST_SCRIPT, LONGEST_LINE}
use Rattle.fx_language.specs.Line.{Line, FileLine, line_of, ◌>>=◌}

-- one byte before the parts
one_byte : (ends : Bool) (b : ℕ) (parts : List (List ℕ)) → nat_le 32 b && nat_le b 126 ≡ true → list_all is_printable parts ≡ true
    → list_all is_printable (if ends then [] ∷ parts else onto_first b parts) ≡ true
one_byte true b parts here all = all
one_byte false b [] here all = rw here
one_byte false b (part ∷ others) here all = rw here all

-- the words of a printable line are printable
pub words_are_printable : (line : List ℕ) → is_printable line ≡ true → list_all is_printable (words line) ≡ true
words_are_printable [] all = refl
words_are_printable (b ∷ bs) all =
    let parts = and_parts (nat_le 32 b && nat_le b 126) (is_printable bs) all in
    one_byte (b == 32) b (words bs) parts.0 (words_are_printable bs parts.1)

-- and so are the later ones
pub others_are_printable : {word : List ℕ} {others left : List (List ℕ)} → left ≡ word ∷ others → list_all is_printable left ≡ true
    → list_all is_printable others ≡ true
others_are_printable {word} {others} is all = (and_parts (is_printable word) (list_all is_printable others) (rw is at all)).1

printable_is_ascii : (word : List ℕ) → is_printable word ≡ true → IsAscii word
printable_is_ascii [] all = IsAscii-nil
printable_is_ascii (b ∷ bs) all =
    let parts = and_parts (nat_le 32 b && nat_le b 126) (is_printable bs) all in
    let small : b ≤ 126 = leb-true b 126 (and_parts (nat_le 32 b) (nat_le b 126) parts.0).1 in
    IsAscii-cons b bs (omega arith) (printable_is_ascii bs parts.1)

pub printable_is_text : (word : List ℕ) → is_printable word ≡ true → IsUtf8 word
printable_is_text word all = IsUtf8-from_ascii word (printable_is_ascii word all)

-- a conversion that fails only for bytes that aren't text doesn't fail
pub text_is_ok : {A E : Type 0} (r : Result A E) (word : List ℕ) (P : A → Type 0) (Q : E → Type 0)
    → MatchResult r P (λ e. ¬ (IsUtf8 word) × Q e) → IsUtf8 word → IsOk r
text_is_ok (Ok x) word P Q cases is = refl
text_is_ok (Err e) word P Q cases is = absurd (cases.0 is)

-- Scripts, their faults and their files.

by_reading : (bytes : List ℕ) (r : Result Meaning LineFault) → reading_of bytes ≡ r → IsScriptOrFaulty bytes
by_reading bytes (Ok meaning) is = inl (record {
  meaning = meaning;
  is_script = is;
  only = λ other script. cc (script, is);
  no_fault = λ line kind fault. cc (fault, is);
})
by_reading bytes (Err fault) is = inr (record {
  line = fault.line;
  kind = fault.kind;
  has_fault = is;
  only_line = λ other of_kind has. let same : record { line = other; kind = of_kind } ≡ fault = cc (has, is) in ap (λ (f : LineFault). f.line) same;
  only_kind = λ on other has. let same : record { line = on; kind = other } ≡ fault = cc (has, is) in ap (λ (f : LineFault). f.kind) same;
  no_script = λ meaning script. cc (script, is);
})

pub decided : (bytes : List ℕ) → IsScriptOrFaulty bytes
decided bytes = by_reading bytes (reading_of bytes) refl

-- The files of a script are a catalogue, of bytes alone.

-- the files of lines that are read are those of a script
abbrev Keeps : Result Progress ScriptFault → Type 0
Keeps r = IfOk r (λ p. AreFiles p.catalogue)

abbrev Says : Result Meaning LineFault → Type 0
Says r = IfOk r (λ meaning. AreFiles meaning.catalogue)

module _ (p : Progress) (are : AreFiles p.catalogue) where
  grown : (name bytes : List ℕ) → length p.catalogue < MOST_ENTRIES → is_name name ≡ true → has_name name p.catalogue ≡ false
      → length bytes ≤ LONGEST_ENTRY → IsBytes bytes → AreFiles (p.catalogue ++ record { name = name; bytes = bytes } ∷ [])
  grown name bytes few named new small fits = record {
    catalogue = one_more p.catalogue (record { name = name; bytes = bytes }) are.catalogue few small named new;
    bytes = All-push (λ (file : FileEntry). IsBytes file.bytes) p.catalogue (record { name = name; bytes = bytes }) are.bytes fits;
  }

  file_keeps : (name bytes : List ℕ) → IsBytes bytes → Keeps (with_named_file p name bytes)
  file_keeps name bytes fits =
      let with : Progress = record p { catalogue = p.catalogue ++ record { name = name; bytes = bytes } ∷ [] } in
      let Kept : Option AddFault → Type 0 = λ x. Keeps (unless (option_and_then line_fault_of x) with) in
      cond_both (nat_le MOST_ENTRIES (length p.catalogue)) _ _ Kept (λ _. tt)
      (λ few. cond_both (length name == 0) _ _ Kept (λ _. tt)
      (λ _. cond_both (not (is_name name)) _ _ Kept (λ _. tt)
      (λ named. cond_both (has_name name p.catalogue) _ _ Kept (λ _. tt)
      (λ new. cond_both (nat_lt LONGEST_ENTRY (length bytes)) _ _ Kept (λ _. tt)
      (λ small. grown name bytes (leb-false MOST_ENTRIES (length p.catalogue) few) (not-false (is_name name) named) new
      (ltb-false LONGEST_ENTRY (length bytes) small) fits)))))

  decoded_keeps : (name hex : List ℕ) (r : Result (List ℕ) FromHexError) → decode_of hex ≡ r
      → Keeps (ok_or (result_ok r) BadHex >>= with_named_file p name)
  decoded_keeps name hex (Ok bytes) is = let (even, digits, long, fits) = decode_of-ok hex bytes is in file_keeps name bytes fits
  decoded_keeps name hex (Err e) is = tt

  hex_keeps : (name hex : List ℕ) → Keeps (after_file p name hex)
  hex_keeps name hex =
      let Kept : Option (List ℕ) → Type 0 = λ x. Keeps (ok_or x BadHex >>= with_named_file p name) in
      cond_both (bytes_eq hex (codes "-")) _ _ Kept (λ _. file_keeps name [] (λ i. omega arith))
      (λ _. cond_both (length hex == 0) _ _ Kept (λ _. tt) (λ _. decoded_keeps name hex (decode_of hex) refl))

  line_keeps : (n : ℕ) (line : Line) → Keeps (after_line n p line)
  line_keeps n (FileLine name hex) = hex_keeps name hex
  line_keeps n _ = are

  text_keeps : (n : ℕ) (text : List ℕ) → Keeps (after_text n p text)
  text_keeps n text =
      cond_both (nat_lt LONGEST_LINE (length text)) _ _ Keeps (λ _. tt)
      (λ _. cond_both (not (is_printable text)) _ _ Keeps (λ _. tt)
      (λ _. cond_both (is_skipped text) _ _ Keeps (λ _. are)
      (λ _. by_line (line_of (is_late p) (words text)))))
    where
      by_line : (r : Result Line ScriptFault) → Keeps (r >>= after_line n p)
      by_line (Ok line) = line_keeps n line
      by_line (Err fault) = tt

  end_says : Says (at_end p)
  end_says = cond_both (length p.waiting == 0) _ _ Says (λ _. are) (λ _. tt)

texts_say : (n : ℕ) (p : Progress) (texts : List (List ℕ)) → AreFiles p.catalogue → Says (after_texts n p texts)
texts_say n p [] are = end_says p are
texts_say n p (text ∷ texts) are =
    elim (after_text n p text) as (λ r. Keeps r → Says (on_line n r (λ q. after_texts (n + 1) q texts)))
    [ Ok q ↦ texts_say (n + 1) q texts | Err fault ↦ λ _. tt ] (text_keeps p are n text)

no_files : AreFiles []
no_files = record {
  catalogue = record {
    few = omega arith;
    small = All-nil (λ (file : FileEntry). length file.bytes ≤ LONGEST_ENTRY);
    named = All-nil _;
    distinct = λ i j name is. cc;
  };
  bytes = All-nil (λ (file : FileEntry). IsBytes file.bytes);
}

reading_says : (bytes : List ℕ) → Says (reading_of bytes)
reading_says bytes = cond_both (nat_lt LONGEST_SCRIPT (length bytes)) _ _ Says (λ _. tt) (λ _. texts_say 1 nothing (lines bytes) no_files)

pub each_script_has_files : (bytes : List ℕ) (meaning : Meaning) → IsScript bytes meaning → AreFiles meaning.catalogue
each_script_has_files bytes meaning is = subst Says is (reading_says bytes)
