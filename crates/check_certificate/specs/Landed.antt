-- Accesses that may install a file: at which slot.
use Rattle.check_certificate.specs.Words.{true, Intent, Allocate, Event, Landing}
use Rattle.std.specs.Prelude.{◌≡◌}
use Rattle.fx_chain.specs.declared.intent.Intent.TheVariants.{Put}
use Rattle.check_certificate.specs.Forced.{IsForced}
use Rattle.check_certificate.specs.declared.beginning.LogBeginning.{LogBeginning}
use Rattle.check_certificate.specs.declared.certificate.Point.TheVariants.{Put as Installed}

-- the file was installed before the event
abbrev pub IsInstalledBefore : LogBeginning → Landing → Type 0
IsInstalledBefore b l =
    IsForced b (record { from = Installed l.file; to = Event l.until; strict = true })

-- the access that is intended installs the file at the slot, or doesn't install it
abbrev pub LandsThere : Landing → Intent → Type 0
LandsThere l (Put own file) = file ≡ l.file → own ≡ l.slot
LandsThere l (Allocate file) = file ≡ l.file → ⊥
LandsThere l intent = Unit {0}

-- or at another slot
abbrev pub MissesThere : Landing → Intent → Type 0
MissesThere l (Put own file) = file ≡ l.file → own ≡ l.slot → ⊥
MissesThere l (Allocate file) = file ≡ l.file → ⊥
MissesThere l intent = Unit {0}
