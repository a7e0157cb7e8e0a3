use Rattle.fx_judge.proofs.{◌≡◌, [], drop, file_passed, IsCatalogue, all_after}
use Rattle.fx_judge.proofs.files.catalogue_of.Given as goal

-- the files so far are a catalogue, and with those that are left it is that of all
abbrev pub invariant-loop-file : goal.invariant-loop-file
invariant-loop-file l = record {
  left : all_after (file_passed l.bytes) l.catalogue (drop l.file-index l.files) ≡ all_after (file_passed l.bytes) [] l.files;
  catalogue : IsCatalogue l.catalogue;
}
