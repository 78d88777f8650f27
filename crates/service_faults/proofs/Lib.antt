pub mod JudgingLemmas
