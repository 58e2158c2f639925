-- The digits are spelled, and the payload is the front of the buffer.
use native.Mathlib.Omega.{arith}
use Rattle.listing.specs.Listing.{spelled_text}
use Rattle.ascii.proofs.Laws.{spelled_front}
use Rattle.listing.proofs.put_spelled.Goals as goal

pub returns : goal.returns
unfolding spelled_text
returns c = rw (← spelled_front c.args.line.now c.args.request.from c.args.request.digits _ c.requires.within (omega (arith, c.requires.short)) c.unhex.ensures) c.put_payload.ensures
