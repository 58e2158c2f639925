-- Every record that its writer accepts is received whole: cut, fed after anything, shown and read back.
-- Assumes nothing.
use lib.ListN.{length, take}
use Rattle.cutter.specs.Cut.{fragments_of, joined}
use Rattle.exchange.proofs.Delivered.{delivered}
use Rattle.exchange.proofs.Sent.{sent, sent_parts}
use Rattle.claims.specs.Transfer.{write_of, EveryRecord}
use Rattle.claims.proofs.Accepts.{carried_kept, kept_accepted, shows, width}
use Rattle.claims.proofs.Back.{reads_back, few}

pub every_record : EveryRecord
every_record r z out n e m c size low high stream room earlier rooms =
    let s = take n (write_of r out).output in
    let k = length (fragments_of m size s) in
    let l = length (joined (fragments_of m size s)) in
    let a = kept_accepted m size s stream (carried_kept r m c) low high (few r z out n e) room in
    record {
      count = k;
      long = l;
      cut = a;
      fragments = sent_parts m size s stream k l (sent m size s stream k l a);
      run = delivered m size s stream k l (record { width = width r m c; accepted = a }) rooms earlier;
      shown = shows r m c;
      back = reads_back r z out n e;
    }
