-- By the kind.
use Rattle.trace.proofs.heads.put_kind.Goals as goal

pub returns-in-PacketService : goal.returns-in-PacketService
returns-in-PacketService c = rw c.in-PacketService.is c.put_text.ensures

pub returns-in-RegisterState : goal.returns-in-RegisterState
returns-in-RegisterState c = rw c.in-RegisterState.is c.put_text-in-RegisterState.ensures
