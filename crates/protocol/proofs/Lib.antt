-- CLAIMS
pub mod Claims
pub mod Examples
pub mod LedgerClaims
pub mod LedgerExamples
pub mod AloneClaims
pub mod AloneExamples
pub mod IncrementsExamples
pub mod AmountClaims
pub mod AmountExamples
pub mod PendingClaims
pub mod PendingExamples
pub mod CaughtUpClaims
pub mod CaughtUpExamples
pub mod ClearClaims
pub mod ClearedExamples
-- LAWS. Case splits, tables, lists.
pub mod Cases
pub mod Tests
pub mod ChecksLaws
pub mod RefusalLaws
pub mod Tables
pub mod BitLaws
pub mod Lists
pub mod StoredLists
-- Algorithm 1 in its two forms.
pub mod Algorithm1Laws
-- One entry against marks; sets of names against numbers; a card's messages as the proof sees them.
pub mod Marks
pub mod EntryLaws
pub mod NameLaws
pub mod Joins
pub mod Chain
-- A ledger that is fed steps: its links, its sets, the names that a count makes.
pub mod LedgerLaws
pub mod NewNames
-- The invariant: of a card and an origin, of a card, of all; what cards send; the steps; the theorem.
pub mod Pairs
pub mod Cards
pub mod Makers
pub mod Enabled
pub mod InvariantSteps
pub mod Theorem
-- What else the invariant gives.
pub mod RunsLaws
pub mod Links
pub mod OwnBounded
pub mod Refusals
pub mod OwnUnits
-- One counter's own steps alone.
pub mod AloneLedgers
pub mod AloneRuns
pub mod AloneTurns
-- A counter that one card alone clears.
pub mod Collects
pub mod ReadAndClearLaws
-- Algorithm 1, w increments in a row.
pub mod InARowLaws
pub mod InARowRuns
pub mod SinglyLaws
-- Deliveries in rounds, and when cards agree.
pub mod RoundRobinLaws
pub mod RoundRobinMade
pub mod RoundRobinEnd
pub mod RoundRobinBound
pub mod RoundRobinTurns
pub mod RoundRobinOpen
pub mod PendingLaws
pub mod Arrivals
pub mod Agreement
pub mod PendingAgreement
-- Histories: what cards have received, and what is cleared in the plain sense.
pub mod Totals
pub mod Messages
pub mod Causality
pub mod HistoryLaws
pub mod CaughtUpLaws
-- What is cancelled was seen by a card that cleared.
pub mod ClearedLaws
-- When a card has no holding cards.
pub mod QuietLaws
-- Replicas kept in words.
pub mod StoreLaws
-- What a card asks before it accepts.
pub mod AcceptanceLaws
