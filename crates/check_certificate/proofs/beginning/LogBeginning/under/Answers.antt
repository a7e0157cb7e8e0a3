use Rattle.check_certificate.proofs.beginning.LogBeginning.under.Goals as goal

pub returns-clause-there : goal.returns-clause-there
returns-clause-there c = λ order forced f. forced (record {
  submissions = f.submissions;
  registrations = f.registrations;
  sound = record { catalogue = f.sound.catalogue; faultless = f.sound.faultless; marks = f.sound.marks };
  legal = f.legal;
  at = f.at;
  times = f.times;
  kept = f.kept;
})

pub returns-clause-back : goal.returns-clause-back
returns-clause-back c = λ order forced f. forced (record {
  submissions = f.submissions;
  registrations = f.registrations;
  sound = record { catalogue = f.sound.catalogue; faultless = f.sound.faultless; marks = f.sound.marks };
  legal = f.legal;
  at = f.at;
  times = f.times;
  kept = f.kept;
})
