-- The host's end in lent memory beside the end by value: its calls, which memory is taken, and how memory serves.
use Rattle.std.specs.Prelude.{ℕ, ◌≤◌, ◌<◌, ◌^◌, ◌≡◌, List, length, Ok, Result}
use Rattle.protocol.specs.Verdict.{judge, no_fault}
use Rattle.handshake_claims.specs.Calls.{HostCall, host_opens, host_closes, host_receives, host_asks}
use Rattle.host.specs.Host.{Asking, made_of, opened_of, closed_of, ask_of, receive_of}
use Rattle.host.specs.declared.Host.{Host}
use Rattle.host.specs.declared.HostAnswer.{HostAnswer}
use Rattle.host.specs.declared.HostAnswer.TheVariants.{Unchanged}
use Rattle.lent_host.specs.LentHost.{host_size, host_bytes, host_rules, host_at, make_in, open_in, close_in, receive_in, ask_in}
use Rattle.lent_claims.specs.Given.{WordsOfWidth, Bytes, message_words}
use Rattle.lent_claims.specs.Turns.{Turn, turn, Reached, TakenExactly, Serves}
use Rattle.protocol.specs.declared.Refusal.{Refusal}

-- ---- calls

abbrev pub HostGiven : HostCall → Type 0
HostGiven (host_opens advertised) = advertised < 2 ^ 16
HostGiven host_closes = Unit
HostGiven (host_receives h s) = WordsOfWidth (message_words h) × Bytes s
HostGiven (host_asks out) = Bytes out

-- what a call is answered; closing by 'unchanged'
pub data HostSaid : Type 0 where
  answers : (Result HostAnswer Refusal) → HostSaid
  shows : Asking → HostSaid

unfoldable pub host_call : Host → HostCall → Turn Host HostSaid
host_call h (host_opens advertised) = turn (answers (opened_of h advertised).answer) (opened_of h advertised).host
host_call h host_closes = turn (answers (Ok Unchanged)) (closed_of h)
host_call h (host_receives m s) = turn (answers (receive_of h m s).answer) (receive_of h m s).host
host_call h (host_asks out) = turn (shows (ask_of h out)) h

unfoldable pub host_call_in : List ℕ → HostCall → Turn (List ℕ) HostSaid
host_call_in m (host_opens advertised) = turn (answers (open_in m advertised).answer) (open_in m advertised).memory
host_call_in m host_closes = turn (answers (close_in m).answer) (close_in m).memory
host_call_in m (host_receives h s) = turn (answers (receive_in m h s).answer) (receive_in m h s).memory
host_call_in m (host_asks out) = turn (shows (ask_in m out)) m

-- ---- which memory is taken

-- no rule is broken, and the fields are those of the end
abbrev pub HostTakes : List ℕ → Host → Type 0
HostTakes m h = (judge (host_rules m) ≡ no_fault) × (host_at m ≡ h)

abbrev pub HostMadeFrom : Host → Type 0
HostMadeFrom h = (native : ℕ) × (native < 2 ^ 16) × (made_of native ≡ Ok h)

abbrev pub HostReached : Host → Type 0
HostReached h = Reached host_call HostMadeFrom HostGiven h

abbrev pub HostTakenExactly : Type 0
HostTakenExactly = TakenExactly HostTakes HostReached host_size host_bytes

-- ---- memory with the room in which a host was made serves any calls

abbrev pub HostMemoryServes : Type 0
HostMemoryServes = (m : List ℕ) → host_size ≤ length m → (native : ℕ) (h : Host) → made_of native ≡ Ok h → (cs : List HostCall)
    → Serves host_call host_call_in HostTakes h (make_in m native).memory cs
