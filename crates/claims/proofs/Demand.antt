-- Demand 3, one claim.
use Rattle.claims.specs.Demand.{DemandThree}
use Rattle.claims.proofs.Transferred.{every_record}
use Rattle.claims.proofs.Settled.{both_ends}

pub demand_three : DemandThree
demand_three = record { transferred = every_record; settled = both_ends }
