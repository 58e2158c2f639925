-- A host in lent memory: taken exactly where calls reach it, and serving any calls as by value.
-- Assumes nothing.
use mathlib.Core.Path.{◌≡◌, refl, sym, ap, ◌∙◌}
use mathlib.Core.Logic.{◌⊎◌, inl, inr}
use mathlib.Core.Bool.{true, false, not, ◌&&◌}
use mathlib.Core.List.{List, ◌++◌}
use Prim.Native.Nat.{ℕ, zero, suc, ◌≤◌, ◌<◌}
use native.Mathlib.Omega.{arith}
use borrow.Author.Tests.{le-ltb, ltb-false}
use lib.Dec.{ltb, eqb}
use lib.ListN.{length, take, drop, take-append-drop, length-append}
use lib.Seq.{sets, length-sets}
use Rattle.wire.specs.Numbers.{u16_at, digits}
use Rattle.protocol.specs.Verdict.{judge, no_fault}
use Rattle.protocol.specs.declared.Version.{Version}
use Rattle.protocol.specs.declared.Version.TheVariants.{V2}
use Rattle.protocol.proofs.Tests.{not_kept, equal_kept}
use Rattle.protocol.proofs.Verdicts.{fits_kept, kept_fits}
use Rattle.version_info.specs.VersionInfo.{is_extension}
use Rattle.handshake.specs.Versions.{number_of, version_of, above}
use Rattle.host.specs.Host.{end, step, made_of, opened_of, closed_of, receive_of}
use Rattle.handshake_claims.specs.Calls.{HostCall, host_opens, host_closes, host_receives, host_asks, host_after, HostSound}
use Rattle.host.specs.declared.Host.{Host}
use Rattle.host.specs.declared.HostStep.{HostStep}
use Rattle.host.specs.declared.HostAnswer.{HostAnswer}
use Rattle.host.specs.declared.HostAnswer.TheVariants.{Unchanged}
use Rattle.host.specs.declared.HostStage.{HostStage}
use Rattle.host.specs.declared.HostStage.TheVariants.{Closed, Open, AwaitsVersion, Settled}
use Rattle.handshake_claims.proofs.Bounded.{host_kept, sound_again, host_made_sound, extension_cases, advertised_below}
use Rattle.lent_ends.specs.Stages.{stray_version}
use Rattle.lent_host.specs.LentHost.{host_size, host_bytes, host_rules, host_at, host_in, stage_of, stage_number, stage_version, make_in, called, open_in, close_in, receive_in, ask_in}
use Rattle.lent_claims.specs.Given.{Bytes}
use Rattle.lent_claims.specs.HostMemory.{answers, host_call, host_call_in, HostTakes, HostReached, HostTakenExactly, HostMemoryServes}
use Rattle.lent_claims.proofs.Serves.{run_holds, run_sound}
use Rattle.handshake_claims.proofs.Run.{version_back}
use Rattle.lent_claims.proofs.Fields.{first, behind, stored, front_of, small, known, number_back, ordered}
use Rattle.lent_claims.proofs.HostReached.{host_reached}
use Rattle.std.specs.Prelude.{Ok, Result}
use Rattle.protocol.specs.declared.Refusal.{Refusal}

abbrev Sound : Host → Type 0
Sound h = HostSound h.native h.stage

-- ---- the memory of an end that is sound is taken

length_host : (h : Host) → length (host_bytes h) ≡ host_size
unfolding host_bytes
length_host h = refl

stage_small : (s : HostStage) → (stage_number s < 65536) × (stage_version s < 65536)
stage_small Closed = (omega arith, omega arith)
stage_small (Open v) = (omega arith, small v)
stage_small (AwaitsVersion v) = (omega arith, small v)
stage_small (Settled v) = (omega arith, small v)

fields : (h : Host) (t : List ℕ)
    → (u16_at (host_bytes h ++ t) 0 ≡ number_of h.native) × (u16_at (host_bytes h ++ t) 2 ≡ stage_number h.stage) × (u16_at (host_bytes h ++ t) 4 ≡ stage_version h.stage)
unfolding host_bytes
fields h t =
    let a = number_of h.native in
    let b = stage_number h.stage in
    let d = stage_version h.stage in (
      first a _ (small h.native),
      behind a (digits 2 b ++ (digits 2 d ++ t)) 0 ∙ first b _ (stage_small h.stage).0,
      behind a (digits 2 b ++ (digits 2 d ++ t)) 2 ∙ behind b (digits 2 d ++ t) 0 ∙ first d t (stage_small h.stage).1,
    )

-- the numbers of a sound stage keep the rules
stage_kept : (n : Version) (s : HostStage) → HostSound n s
    → (ltb 3 (stage_number s) ≡ false) × ((eqb (stage_number s) 2 && ltb (number_of n) 0x0200) ≡ false) × (stray_version (not (eqb (stage_number s) 0)) (stage_version s) ≡ false)
    × ((eqb (stage_number s) 3 && ltb (number_of n) (stage_version s)) ≡ false)
stage_kept n Closed k = (refl, refl, refl, refl)
stage_kept n (Open v) k = (refl, refl, ap not (known v), refl)
stage_kept n (AwaitsVersion v) k = (refl, rw k refl, ap not (known v), refl)
stage_kept n (Settled v) k = (refl, refl, ap not (known v), ordered n v k)

stage_back : (s : HostStage) → stage_of (stage_number s) (version_of (stage_version s)) ≡ s
stage_back Closed = refl
stage_back (Open v) = ap (λ x. Open x) (version_back v)
stage_back (AwaitsVersion v) = ap (λ x. AwaitsVersion x) (version_back v)
stage_back (Settled v) = ap (λ x. Settled x) (version_back v)

front_taken : (h : Host) (t : List ℕ) → Sound h → HostTakes (host_bytes h ++ t) h
unfolding host_at
front_taken h t k =
    let f = fields h t in
    let g = stage_kept h.native h.stage k in
    let room : host_size ≤ length (host_bytes h ++ t) = omega (arith, length-append (host_bytes h) t, length_host h) in (
      kept_fits (host_rules (host_bytes h ++ t)) (
        le-ltb _ _ room,
        (rw f.0 (ap not (known h.native)), (rw f.1 g.0, (rw (f.0, f.1) g.1, (rw (f.1, f.2) g.2, (rw (f.0, f.1, f.2) g.3, tt))))),
      ),
      rw (f.0, f.1, f.2) (λ i. record { native = version_back h.native i; stage = stage_back h.stage i }),
    )

pub host_held : (h : Host) (m : List ℕ) → Sound h → host_size ≤ length m → HostTakes (sets m 0 (host_bytes h)) h
host_held h m k room = rw (stored (host_bytes h) m (length_host h) room) (front_taken h (drop host_size m) k)

-- ---- memory that is taken is that of a sound end

-- an end of the numbers a, s and w
record Numbered (a s w : ℕ) (h : Host) : Type 0 where
  sound : Sound h
  native : number_of h.native ≡ a
  stage : stage_number h.stage ≡ s
  version : stage_version h.stage ≡ w

awaits_later : (a : ℕ) → is_extension a ≡ true → ltb a 0x0200 ≡ false → version_of a ≡ V2
awaits_later a e l = go (extension_cases a e)
  where
    go : (a ≡ 0x0100) ⊎ (a ≡ 0x0200) → version_of a ≡ V2
    go (inl p) = absurd (omega (arith, p, ltb-false a 0x0200 l))
    go (inr p) = rw p

numbered : (a s w : ℕ) → is_extension a ≡ true → ltb 3 s ≡ false → (eqb s 2 && ltb a 0x0200) ≡ false → stray_version (not (eqb s 0)) w ≡ false → (eqb s 3 && ltb a w) ≡ false
    → Numbered a s w (end (version_of a) (stage_of s (version_of w)))
numbered a zero w e l asks stray above = record { sound = tt; native = number_back a e; stage = refl; version = sym (equal_kept w 0 stray) }
numbered a (suc zero) w e l asks stray above = record { sound = tt; native = number_back a e; stage = refl; version = number_back w (not_kept _ stray) }
numbered a (suc (suc zero)) w e l asks stray above = record { sound = awaits_later a e asks; native = number_back a e; stage = refl; version = number_back w (not_kept _ stray) }
numbered a (suc (suc (suc zero))) w e l asks stray above =
    let k = not_kept (is_extension w) stray in
    record {
      sound = advertised_below a w (extension_cases a e) (extension_cases w k) (ltb-false a w above);
      native = number_back a e;
      stage = refl;
      version = number_back w k;
    }
numbered a (suc (suc (suc (suc s)))) w e l asks stray above = absurd (omega (arith, ltb-false 3 (suc (suc (suc (suc s)))) l))

taken_numbered : (m : List ℕ) → judge (host_rules m) ≡ no_fault → Numbered (u16_at m 0) (u16_at m 2) (u16_at m 4) (host_at m)
unfolding host_at
taken_numbered m e =
    let k = fits_kept (host_rules m) e in
    numbered (u16_at m 0) (u16_at m 2) (u16_at m 4) (not_kept _ k.1.0) k.1.1.0 k.1.1.1.0 k.1.1.1.1.0 k.1.1.1.1.1.0

taken_front : (m : List ℕ) (h : Host) → Bytes m → HostTakes m h → take host_size m ≡ host_bytes h
unfolding host_bytes
taken_front m h b t =
    let n = taken_numbered m t.0 in
    let l = ltb-false (length m) host_size (fits_kept (host_rules m) t.0).0 in
    rw (← t.1, n.native, n.stage, n.version) (front_of 3 m b l)

-- ---- taken exactly where calls reach

one_sound : (h : Host) (c : HostCall) → Sound h → Sound (host_call h c).after
unfolding host_call host_after
one_sound h (host_opens a) k = sound_again h.native (host_after h (host_opens a)) (host_kept h (host_opens a) k)
one_sound h host_closes k = tt
one_sound h (host_receives m s) k = sound_again h.native (host_after h (host_receives m s)) (host_kept h (host_receives m s) k)
one_sound h (host_asks out) k = k

reached_sound : (h : Host) → HostReached h → Sound h
reached_sound h r = rw (← r.end) (run_sound host_call Sound one_sound r.begun r.calls (host_made_sound r.made.0 r.begun r.made.2))

pub host_taken_exactly : HostTakenExactly
host_taken_exactly m b h = (
  λ t. (host_reached h (rw (← t.1) (taken_numbered m t.0).sound), taken_front m h b t),
  λ r e. rw (← take-append-drop host_size m, e) (front_taken h (drop host_size m) (reached_sound h r)),
)

-- ---- memory serves

abbrev Holds : List ℕ → Host → Type 0
Holds m h = (host_size ≤ length m) × Sound h × HostTakes m h

-- any call on memory that holds an end
call_holds : (m : List ℕ) (h : Host) (f : Host → HostStep) → Holds m h → Sound (f h).host → ((called m f).answer ≡ (f h).answer) × Holds (called m f).memory (f h).host
unfolding host_in
call_holds m h f H k =
    rw (H.2.0, H.2.1) (refl, (rw (length-sets m 0 (host_bytes (f h).host)) H.0, k, host_held (f h).host m k H.0))

one_holds : (m : List ℕ) (h : Host) (c : HostCall) → Holds m h → ((host_call_in m c).answer ≡ (host_call h c).answer) × Holds (host_call_in m c).after (host_call h c).after
unfolding host_call host_call_in open_in close_in receive_in ask_in host_in host_after
one_holds m h (host_opens a) H =
    let r = call_holds m h (λ (x : Host). opened_of x a) H (one_sound h (host_opens a) H.1) in
    (ap (λ (x : (Result HostAnswer Refusal)). answers x) r.0, r.1)
one_holds m h host_closes H =
    let r = call_holds m h (λ (x : Host). step (closed_of x) (Ok Unchanged)) H tt in
    (ap (λ (x : (Result HostAnswer Refusal)). answers x) r.0, r.1)
one_holds m h (host_receives g s) H =
    let r = call_holds m h (λ (x : Host). receive_of x g s) H (one_sound h (host_receives g s) H.1) in
    (ap (λ (x : (Result HostAnswer Refusal)). answers x) r.0, r.1)
one_holds m h (host_asks out) H = (rw (H.2.0, H.2.1) refl, H)

made_holds : (m : List ℕ) → host_size ≤ length m → (native : ℕ) (h : Host) → made_of native ≡ Ok h → Holds (make_in m native).memory h
unfolding make_in
made_holds m room native h e =
    let k = host_made_sound native h e in
    rw (e, le-ltb (length m) host_size room) (rw (length-sets m 0 (host_bytes h)) room, k, host_held h m k room)

pub host_memory_serves : HostMemoryServes
host_memory_serves m room native h e cs =
    let r = run_holds host_call host_call_in Holds one_holds (make_in m native).memory h cs (made_holds m room native h e) in
    record { answers = r.0; held = r.1.2 }
