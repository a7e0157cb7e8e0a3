-- Lemmas of the holds: takes, announcements, and how a removed file is released.
pub mod Lists
pub mod Unheld
pub mod LettingGo
pub mod LetGoLaws
pub mod HoldWords
pub mod Listing
pub mod Looking
pub mod Taking
pub mod Retiring
pub mod Finishing
pub mod RoundSteps
pub mod EndingHold
pub mod Visiting
pub mod Skimming
pub mod Rounds
pub mod Holds
