-- The modem's end in lent memory beside the end by value: its calls, which memory is taken, and how memory serves.
use Rattle.std.specs.Prelude.{ℕ, ◌≤◌, ◌<◌, ◌^◌, ◌≡◌, List, length, Ok}
use Rattle.protocol.specs.Verdict.{judge, no_fault, Verdict}
use Rattle.handshake_claims.specs.Calls.{ModemCall, modem_opens, modem_closes, modem_receives}
use Rattle.modem.specs.Modem.{made_of, start_of, Commanding, receive_of}
use Rattle.modem.specs.declared.Modem.{Modem}
use Rattle.lent.specs.Stored.{Stored}
use Rattle.lent_modem.specs.LentModem.{modem_size, modem_bytes, modem_rules, modem_at, make_in, restart_in, ModemCalled, receive_in}
use Rattle.lent_modem.specs.declared.ModemReply.{ModemReply}
use Rattle.lent_claims.specs.Given.{WordsOfWidth, Bytes, message_words}
use Rattle.lent_claims.specs.Turns.{Turn, turn, Reached, TakenExactly, Serves}

-- ---- calls: OPEN, CLOSE, and a message with its information and the lent output

abbrev pub ModemGiven : ModemCall → Type 0
ModemGiven modem_opens = Unit
ModemGiven modem_closes = Unit
ModemGiven (modem_receives h s out) = WordsOfWidth (message_words h) × Bytes s × Bytes out

-- what a call is answered: OPEN and CLOSE by a verdict, a message by a reply and the output
pub data ModemSaid : Type 0 where
  restarts : Verdict → ModemSaid
  replies : ModemReply → List ℕ → ModemSaid

abbrev pub commanded : Commanding → Turn Modem ModemSaid
commanded c = turn (replies record { answer = c.step.answer; stage = c.step.modem.stage } c.output) c.step.modem

unfoldable pub modem_call : Modem → ModemCall → Turn Modem ModemSaid
modem_call x modem_opens = turn (restarts no_fault) (start_of x)
modem_call x modem_closes = turn (restarts no_fault) (start_of x)
modem_call x (modem_receives h s out) = commanded (receive_of x h s out)

abbrev pub restarted : Stored → Turn (List ℕ) ModemSaid
restarted r = turn (restarts r.verdict) r.memory

abbrev pub replied : ModemCalled → Turn (List ℕ) ModemSaid
replied r = turn (replies r.reply r.output) r.memory

unfoldable pub modem_call_in : List ℕ → ModemCall → Turn (List ℕ) ModemSaid
modem_call_in m modem_opens = restarted (restart_in m)
modem_call_in m modem_closes = restarted (restart_in m)
modem_call_in m (modem_receives h s out) = replied (receive_in m h s out)

-- ---- which memory is taken

-- no rule is broken, and the fields are those of the end
abbrev pub ModemTakes : List ℕ → Modem → Type 0
ModemTakes m x = (judge (modem_rules m) ≡ no_fault) × (modem_at m ≡ x)

-- from the numbers of its versions and a list of services
pub record ModemMadeFrom (x : Modem) : Type 0 where
  pub native : ℕ
  pub advertised : ℕ
  pub services : List ℕ
  pub native_small : native < 2 ^ 16
  pub advertised_small : advertised < 2 ^ 16
  pub services_bytes : Bytes services
  pub made : made_of native advertised services ≡ Ok x

abbrev pub ModemReached : Modem → Type 0
ModemReached x = Reached modem_call ModemMadeFrom ModemGiven x

abbrev pub ModemTakenExactly : Type 0
ModemTakenExactly = TakenExactly ModemTakes ModemReached modem_size modem_bytes

-- ---- memory with the room in which a modem was made serves any calls

abbrev pub ModemMemoryServes : Type 0
ModemMemoryServes = (m : List ℕ) → modem_size ≤ length m → (native advertised : ℕ) (services : List ℕ) (x : Modem) → made_of native advertised services ≡ Ok x
    → (cs : List ModemCall) → Serves modem_call modem_call_in ModemTakes x (make_in m native advertised services).memory cs
