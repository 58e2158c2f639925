-- Demand 3, one claim: any record is received whole, and host and modem settle on the one version of the rule or the host refuses.
use Rattle.claims.specs.Transfer.{EveryRecord}
use Rattle.claims.specs.Settle.{BothSettle}

pub record DemandThree : Type 0 where
  pub transferred : EveryRecord
  pub settled : BothSettle
