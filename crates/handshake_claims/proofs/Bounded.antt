-- Whatever an end is called with, it stays sound: it never settles above its native version, and a modem not below its advertised one.
-- Assumes nothing.
use Prim.Native.Nat.{ℕ, ◌≤◌}
use mathlib.Core.Path.{◌≡◌, refl, ◌∙◌}
use mathlib.Core.Logic.{◌⊎◌, inl, inr, ⊎_map}
use mathlib.Core.Bool.{Bool, true, false, not, cond, ◌&&◌}
use mathlib.Core.List.{List, [], ◌∷◌}
use native.Mathlib.Omega.{arith}
use borrow.Author.Tests.{eqb-true, ltb-false}
use lib.Dec.{eqb}
use Rattle.protocol.specs.Service.{kind_of, Carried}
use Rattle.protocol.specs.Verdict.{judge, no_fault, Verdict, Written}
use Rattle.protocol.specs.declared.Version.{Version}
use Rattle.protocol.specs.declared.Version.TheVariants.{V1, V2}
use Rattle.protocol.proofs.Tests.{and_both, or_cases, not_kept}
use Rattle.protocol.proofs.Verdicts.{fits_kept}
use Rattle.message.specs.declared.MessageHeader.{MessageHeader}
use Rattle.version_info.specs.VersionInfo.{is_extension, read_of, write_of, VersionInfoRead}
use Rattle.handshake.specs.Versions.{number_verdict, version_of, info_of, larger, lower, above, is_later}
use Rattle.handshake.specs.Commands.{role_of, version_listed}
use Rattle.host.specs.Host.{end, opened_by, opened_of, list_rules, accepted_list, judged_list, list_at, list_reply, version_asked, services_reply_of, answered_at, failed_at, answered_by, version_reply_of, reply_role, receive_by, receive_of, made_by, made_of}
use Rattle.modem.specs.Modem.{end as modem_end, plain, failed, listed_stage, services_of, answer_of, gave_by, gave, give_of, answer_by, is_listed, can_answer, version_of_command, first_other, other_at, command_by, command_of, command_rules, receive_by as commanded_by, receive_of as modem_receive_of, made_rules, listed_by, made_by as modem_made_by, made_of as modem_made_of}
use Rattle.handshake_claims.specs.Calls.{HostCall, host_opens, host_closes, host_receives, host_asks, host_after, host_after_all, HostSound, ModemCall, modem_opens, modem_closes, modem_receives, modem_after, modem_after_all, ModemSoundAt, ModemSound}
use Rattle.host.specs.declared.HostStage.{HostStage}
use Rattle.host.specs.declared.HostStage.TheVariants as host
use Rattle.host.specs.declared.Host.{Host}
use Rattle.host.specs.declared.HostStep.{HostStep}
use Rattle.modem.specs.declared.ModemStage.{ModemStage}
use Rattle.modem.specs.declared.ModemStage.TheVariants as modem
use Rattle.modem.specs.declared.Modem.{Modem}
use Rattle.handshake.specs.declared.Role.{Role}
use Rattle.handshake.specs.declared.Role.TheVariants as role
use Rattle.handshake_claims.specs.Claims.{HostNeverAbove, ModemNeverAbove}
use Rattle.std.specs.Prelude.{Ok, Err}
use Rattle.services_query.specs.ServicesQuery.{ListedAnswer}

-- ---- the host

-- a host of the same native version, at a stage that is sound
abbrev pub HostKept : Version → Host → Type 0
HostKept n h = (h.native ≡ n) × HostSound n h.stage

pub none_above : (v : Version) → above v V2 ≡ false
none_above V1 = refl
none_above V2 = refl

either : (n : Version) (b : Bool) (x y : HostStep) → HostKept n x.host → HostKept n y.host → HostKept n (cond b x y).host
either n true x y p q = p
either n false x y p q = q

opened_kept : (d : Verdict) (h : Host) (v : Version) → HostSound h.native h.stage → HostKept h.native (opened_by d h v).host
opened_kept (Ok _) h v k = (refl, tt)
opened_kept (Err r) h v k = (refl, k)

accepted_kept : (n : Version) (g : HostStage) (a : Version) (listed : Bool) → HostKept n (accepted_list (end n g) a listed).host
accepted_kept V1 g a listed = (refl, refl)
accepted_kept V2 g a true = (refl, refl)
accepted_kept V2 g a false = (refl, refl)

judged_kept : (d : Verdict) (h : Host) (a : Version) (listed : Bool) → HostSound h.native h.stage → HostKept h.native (judged_list d h a listed).host
judged_kept (Ok _) h a listed k = accepted_kept h.native h.stage a listed
judged_kept (Err r) h a listed k = (refl, k)

list_kept : (g : HostStage) (h : Host) (listed : Bool) → HostSound h.native h.stage → HostKept h.native (list_at g h listed).host
unfolding list_at
list_kept host.Closed h listed k = (refl, k)
list_kept (host.Open a) h listed k = judged_kept (judge (list_rules h.native a listed)) h a listed k
list_kept (host.AwaitsVersion a) h listed k = (refl, k)
list_kept (host.Settled v) h listed k = (refl, k)

reply_kept : (l : ListedAnswer) (h : Host) → HostSound h.native h.stage → HostKept h.native (list_reply h l).host
unfolding list_reply
reply_kept (Ok listed) h k = list_kept h.stage h listed k
reply_kept (Err r) h k = (refl, k)

answered_kept : (g : HostStage) (h : Host) (v : Version) → HostSound h.native g → HostSound h.native h.stage → HostKept h.native (answered_at g h v).host
unfolding answered_at
answered_kept host.Closed h v k s = (refl, s)
answered_kept (host.Open a) h v k s = (refl, s)
answered_kept (host.AwaitsVersion a) h v k s = (refl, rw k (none_above (larger a v)))
answered_kept (host.Settled w) h v k s = (refl, s)

failed_kept : (g : HostStage) (h : Host) → HostSound h.native g → HostSound h.native h.stage → HostKept h.native (failed_at g h).host
unfolding failed_at
failed_kept host.Closed h k s = (refl, s)
failed_kept (host.Open a) h k s = (refl, s)
failed_kept (host.AwaitsVersion a) h k s = (refl, rw k (none_above a))
failed_kept (host.Settled w) h k s = (refl, s)

payload_kept : (r : VersionInfoRead) (h : Host) → HostSound h.native h.stage → HostKept h.native (answered_by h r).host
unfolding answered_by
payload_kept (Ok i) h k = answered_kept h.stage h (version_of i.bcd_mbim_extended_version) k k
payload_kept (Err r) h k = (refl, k)

message_kept : (x : Role) (h : Host) (status : ℕ) (s : List ℕ) → HostSound h.native h.stage → HostKept h.native (receive_by x h status s).host
unfolding receive_by services_reply_of version_reply_of
message_kept role.Services h status s k = either h.native (eqb status 0) _ _ (reply_kept (version_asked s) h k) (refl, k)
message_kept role.Version h status s k = either h.native (eqb status 0) _ _ (payload_kept (read_of s) h k) (failed_kept h.stage h k k)
message_kept role.Other h status s k = (refl, k)

pub host_kept : (h : Host) (c : HostCall) → HostSound h.native h.stage → HostKept h.native (host_after h c)
unfolding host_after opened_of receive_of
host_kept h (host_opens a) k = opened_kept (number_verdict a) h (version_of a) k
host_kept h host_closes k = (refl, tt)
host_kept h (host_receives m s) k = message_kept (reply_role m) h m.word s k
host_kept h (host_asks out) k = (refl, k)

pub sound_again : (n : Version) (h : Host) → HostKept n h → HostSound h.native h.stage
sound_again n h k = rw k.0 k.1

kept_again : (m n : Version) (h : Host) → m ≡ n → HostKept m h → HostKept n h
kept_again m n h e k = rw e at k

pub host_bounded : (h : Host) (cs : List HostCall) → HostSound h.native h.stage → HostKept h.native (host_after_all h cs)
unfolding host_after_all
host_bounded h [] k = (refl, k)
host_bounded h (c ∷ cs) k =
    let p = host_kept h c k in
    kept_again (host_after h c).native h.native (host_after_all (host_after h c) cs) p.0
    (host_bounded (host_after h c) cs (sound_again h.native (host_after h c) p))

-- ---- the modem

abbrev pub ModemKept : Modem → Modem → Type 0
ModemKept m k = (k.native ≡ m.native) × ModemSound k

-- a version that the modem m may settle on
abbrev MaySettle : Modem → Version → Type 0
MaySettle m v = ModemSoundAt m.native m.advertised m.lists_version (modem.Settled v)

answer_below : (a n v : Version) → above a n ≡ false → above (larger a (lower v n)) n ≡ false
answer_below V1 n V1 k = refl
answer_below V1 V1 V2 k = refl
answer_below V1 V2 V2 k = refl
answer_below V2 n v k = k

answer_above : (a v : Version) → above a (larger a v) ≡ false
answer_above V1 v = refl
answer_above V2 v = refl

none_unlisted : (v : Version) → (is_later v && not true) ≡ false
none_unlisted V1 = refl
none_unlisted V2 = refl

may_answer : (m : Modem) (v : Version) → above m.advertised m.native ≡ false → m.lists_version ≡ true → MaySettle m (answer_of m v)
may_answer m v k e = (
  answer_below m.advertised m.native v k,
  answer_above m.advertised (lower v m.native),
  rw e (none_unlisted (answer_of m v)),
)

stage_sound : (n a : Version) (l : Bool) (g : ModemStage) → ModemSoundAt n a l g → ModemSoundAt n a l (listed_stage g)
stage_sound n a l modem.Start k = tt
stage_sound n a l modem.Listed k = tt
stage_sound n a l (modem.Settled v) k = k

gave_kept : (w : Written) (m : Modem) (v : Version) → MaySettle m v → ModemSound m → ModemKept m (gave_by w m v).modem
gave_kept (Ok n) m v b k = (refl, (k.0, b))
gave_kept (Err r) m v b k = (refl, k)

answer_kept : (r : VersionInfoRead) (m : Modem) (out : List ℕ) → m.lists_version ≡ true → ModemSound m → ModemKept m (answer_by m r out).step.modem
unfolding answer_by give_of gave
answer_kept (Ok i) m out e k =
    let v = version_of i.bcd_mbim_extended_version in
    gave_kept (write_of (info_of (answer_of m v)) out).answer m (answer_of m v) (may_answer m v k.0 e) k
answer_kept (Err r) m out e k = (refl, k)

-- only a modem that lists VERSION answers it
answers_listed : (m : Modem) (type : ℕ) → can_answer m type ≡ true → m.lists_version ≡ true
unfolding can_answer
answers_listed m type e = (and_both m.lists_version _ (and_both (is_listed m.stage) _ e).1).0

version_kept : (b : Bool) (m : Modem) (r : VersionInfoRead) (out : List ℕ) → (b ≡ true → m.lists_version ≡ true) → ModemSound m
    → ModemKept m (cond b (answer_by m r out) (plain (failed m) out)).step.modem
version_kept true m r out e k = answer_kept r m out (e refl) k
version_kept false m r out e k = (refl, k)

first_kept : (a : Version) (m : Modem) (c : Carried) → m.advertised ≡ a → ModemSound m → ModemKept m (first_other a m c).modem
first_kept V1 m c e k = (refl, (k.0, (refl, rw e refl, refl)))
first_kept V2 m c e k = (refl, k)

other_kept : (g : ModemStage) (m : Modem) (c : Carried) → ModemSound m → ModemKept m (other_at g m c).modem
unfolding other_at
other_kept modem.Start m c k = (refl, k)
other_kept modem.Listed m c k = first_kept m.advertised m c refl k
other_kept (modem.Settled v) m c k = (refl, k)

role_kept : (x : Role) (m : Modem) (c : Carried) (type : ℕ) (s out : List ℕ) → ModemSound m → ModemKept m (command_by x m c type s out).step.modem
unfolding command_by services_of version_of_command
role_kept role.Services m c type s out k = (refl, (k.0, stage_sound m.native m.advertised m.lists_version m.stage k.1))
role_kept role.Version m c type s out k = version_kept (can_answer m type) m (read_of s) out (answers_listed m type) k
role_kept role.Other m c type s out k = other_kept m.stage m c k

verdict_kept : (d : Verdict) (m : Modem) (h : MessageHeader) (s out : List ℕ) → ModemSound m → ModemKept m (commanded_by d m h s out).step.modem
unfolding commanded_by command_of
verdict_kept (Ok _) m h s out k = role_kept (role_of (kind_of h.service h.cid)) m (kind_of h.service h.cid) h.word s out k
verdict_kept (Err r) m h s out k = (refl, k)

pub modem_kept : (m : Modem) (c : ModemCall) → ModemSound m → ModemKept m (modem_after m c)
unfolding modem_after modem_receive_of
modem_kept m modem_opens k = (refl, (k.0, tt))
modem_kept m modem_closes k = (refl, (k.0, tt))
modem_kept m (modem_receives h s out) k = verdict_kept (judge (command_rules h)) m h s out k

pub modem_bounded : (m : Modem) (cs : List ModemCall) → ModemSound m → ModemKept m (modem_after_all m cs)
unfolding modem_after_all
modem_bounded m [] k = (refl, k)
modem_bounded m (c ∷ cs) k =
    let p = modem_kept m c k in
    let q = modem_bounded (modem_after m c) cs p.1 in
    (q.0 ∙ p.0, q.1)

-- ---- from ends that are made

made_host : (d : Verdict) (v : Version) (h : Host) → made_by d v ≡ Ok h → h ≡ end v host.Closed
made_host (Ok _) v h e = cc
made_host (Err r) v h e = cc

pub host_made_sound : (native : ℕ) (h : Host) → made_of native ≡ Ok h → HostSound h.native h.stage
unfolding made_of
host_made_sound native h e = rw (made_host (number_verdict native) (version_of native) h e) tt

host_below : (n : Version) (g : HostStage) (v : Version) → HostSound n g → g ≡ host.Settled v → above v n ≡ false
host_below n g v k e = rw e at k

pub host_never_above : HostNeverAbove
unfolding made_of
host_never_above native h e cs v q =
    let p = made_host (number_verdict native) (version_of native) h e in
    let k = host_bounded (end (version_of native) host.Closed) cs tt in
    let w : (host_after_all (end (version_of native) host.Closed) cs).stage ≡ host.Settled v = rw p at q in
    host_below (version_of native) (host_after_all (end (version_of native) host.Closed) cs).stage v k.1 w

-- a modem that is made has its numbers judged, and is at its start
abbrev Started : ℕ → ℕ → Modem → Type 0
Started native advertised m = (listed : Bool) × (m ≡ modem_end (version_of native) (version_of advertised) listed modem.Start)

listed_modem : (l : ListedAnswer) (n a : ℕ) (m : Modem) → listed_by l (version_of n) (version_of a) ≡ Ok m → Started n a m
listed_modem (Ok listed) n a m e = (listed, cc)
listed_modem (Err r) n a m e = cc

made_modem : (d : Verdict) (n a : ℕ) (s : List ℕ) (m : Modem) → modem_made_by d n a s ≡ Ok m → (d ≡ no_fault) × Started n a m
made_modem (Ok _) n a s m e = (refl, listed_modem (version_listed s) n a m e)
made_modem (Err r) n a s m e = cc

-- a number of the table
pub extension_cases : (n : ℕ) → is_extension n ≡ true → (n ≡ 0x0100) ⊎ (n ≡ 0x0200)
extension_cases n e = ⊎_map (eqb-true n 0x0100) (eqb-true n 0x0200) (or_cases (eqb n 0x0100) (eqb n 0x0200) e)

pub advertised_below : (native advertised : ℕ) → (native ≡ 0x0100) ⊎ (native ≡ 0x0200) → (advertised ≡ 0x0100) ⊎ (advertised ≡ 0x0200)
    → advertised ≤ native → above (version_of advertised) (version_of native) ≡ false
advertised_below native advertised (inl p) (inl q) h = rw (p, q)
advertised_below native advertised (inl p) (inr q) h = absurd (omega arith)
advertised_below native advertised (inr p) (inl q) h = rw (p, q)
advertised_below native advertised (inr p) (inr q) h = rw (p, q)

made_sound : (native advertised : ℕ) (listed : Bool) → judge (made_rules native advertised) ≡ no_fault
    → ModemSound (modem_end (version_of native) (version_of advertised) listed modem.Start)
unfolding made_rules
made_sound native advertised listed e =
    let k = fits_kept (made_rules native advertised) e in (
      advertised_below native advertised (extension_cases native (not_kept (is_extension native) k.0))
          (extension_cases advertised (not_kept (is_extension advertised) k.1.0)) (ltb-false native advertised k.1.1.0),
      tt,
    )

pub modem_made_sound : (native advertised : ℕ) (s : List ℕ) (m : Modem) → modem_made_of native advertised s ≡ Ok m → ModemSound m
unfolding modem_made_of
modem_made_sound native advertised s m e =
    let p = made_modem (judge (made_rules native advertised)) native advertised s m e in
    rw p.1.1 (made_sound native advertised p.1.0 p.0)

settled_below : (n a : Version) (l : Bool) (g : ModemStage) (v : Version) → ModemSoundAt n a l g → g ≡ modem.Settled v → above v n ≡ false
settled_below n a l g v k e = let q : ModemSoundAt n a l (modem.Settled v) = rw e at k in q.0

pub modem_never_above : ModemNeverAbove
modem_never_above native advertised s m e cs v q =
    let b = modem_bounded m cs (modem_made_sound native advertised s m e) in
    let k = modem_after_all m cs in
    rw b.0 at (settled_below k.native k.advertised k.lists_version k.stage v b.1.1 q)
