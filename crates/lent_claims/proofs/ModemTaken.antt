-- A modem in lent memory: taken exactly where calls reach it, and serving any calls as by value.
-- Assumes nothing.
use mathlib.Core.Path.{◌≡◌, refl, sym, ap, ◌∙◌}
use mathlib.Core.Logic.{◌⊎◌, inl, inr}
use mathlib.Core.Bool.{Bool, true, false, not, ◌&&◌}
use mathlib.Core.List.{List, ◌++◌}
use Prim.Native.Nat.{ℕ, zero, suc, ◌≤◌, ◌<◌}
use native.Mathlib.Omega.{arith}
use borrow.Author.Tests.{le-ltb, ltb-false, eq-eqb}
use lib.Dec.{ltb, eqb}
use lib.ListN.{length, take, drop, take-append-drop, length-append}
use lib.Seq.{sets, length-sets}
use Rattle.wire.specs.Numbers.{u16_at, digits}
use Rattle.protocol.specs.Verdict.{judge, Kept, no_fault}
use Rattle.protocol.specs.declared.Version.{Version}
use Rattle.protocol.specs.declared.Version.TheVariants.{V1, V2}
use Rattle.protocol.proofs.Tests.{not_kept, equal_kept, and_cases}
use Rattle.protocol.proofs.Verdicts.{fits_kept, kept_fits}
use Rattle.version_info.specs.VersionInfo.{is_extension}
use Rattle.handshake.specs.Versions.{number_of, version_of, is_later}
use Rattle.modem.specs.Modem.{settled_number, made_of, start_of, receive_of}
use Rattle.handshake_claims.specs.Calls.{ModemCall, modem_opens, modem_closes, modem_receives, modem_after, ModemSound, ModemSoundAt}
use Rattle.modem.specs.declared.Modem.{Modem}
use Rattle.modem.specs.declared.ModemStage.{ModemStage}
use Rattle.modem.specs.declared.ModemStage.TheVariants.{Start, Listed, Settled}
use Rattle.handshake_claims.proofs.Bounded.{modem_kept, modem_made_sound, extension_cases, advertised_below}
use Rattle.lent_modem.specs.LentModem.{modem_size, modem_bytes, stage_rules, modem_rules, modem_at, modem_in, stage_of, stage_number, flag_number, make_in, restart_in, receive_in}
use Rattle.lent_claims.specs.Given.{Bytes}
use Rattle.lent_claims.specs.ModemMemory.{modem_call, modem_call_in, ModemTakes, ModemReached, ModemTakenExactly, ModemMemoryServes}
use Rattle.lent_claims.proofs.Serves.{run_holds, run_sound}
use Rattle.handshake_claims.proofs.Run.{version_back}
use Rattle.lent_claims.proofs.Fields.{first, behind, stored, front_of, small, known, number_back, ordered}
use Rattle.lent_claims.proofs.ModemReached.{modem_reached}
use Rattle.std.specs.Prelude.{Ok}

-- ---- the memory of an end that is sound is taken

length_modem : (x : Modem) → length (modem_bytes x) ≡ modem_size
unfolding modem_bytes
length_modem x = refl

stage_small : (s : ModemStage) → (stage_number s < 65536) × (settled_number s < 65536)
stage_small Start = (omega arith, omega arith)
stage_small Listed = (omega arith, omega arith)
stage_small (Settled v) = (omega arith, small v)

flag_small : (b : Bool) → flag_number b < 65536
flag_small true = omega arith
flag_small false = omega arith

fields : (x : Modem) (t : List ℕ)
    → (u16_at (modem_bytes x ++ t) 0 ≡ number_of x.native) × (u16_at (modem_bytes x ++ t) 2 ≡ number_of x.advertised) × (u16_at (modem_bytes x ++ t) 4 ≡ flag_number x.lists_version)
    × (u16_at (modem_bytes x ++ t) 6 ≡ stage_number x.stage) × (u16_at (modem_bytes x ++ t) 8 ≡ settled_number x.stage)
unfolding modem_bytes
fields x t =
    let a = number_of x.native in
    let b = number_of x.advertised in
    let d = flag_number x.lists_version in
    let e = stage_number x.stage in
    let f = settled_number x.stage in
    let t₄ = digits 2 f ++ t in
    let t₃ = digits 2 e ++ t₄ in
    let t₂ = digits 2 d ++ t₃ in
    let t₁ = digits 2 b ++ t₂ in (
      first a t₁ (small x.native),
      behind a t₁ 0 ∙ first b t₂ (small x.advertised),
      behind a t₁ 2 ∙ behind b t₂ 0 ∙ first d t₃ (flag_small x.lists_version),
      behind a t₁ 4 ∙ behind b t₂ 2 ∙ behind d t₃ 0 ∙ first e t₄ (stage_small x.stage).0,
      behind a t₁ 6 ∙ behind b t₂ 4 ∙ behind d t₃ 2 ∙ behind e t₄ 0 ∙ first f t (stage_small x.stage).1,
    )

pub flag_kept : (b : Bool) → (ltb 1 (flag_number b) ≡ false) × (not (eqb (flag_number b) 0) ≡ b)
flag_kept true = (refl, refl)
flag_kept false = (refl, refl)

unlisted : (b : Bool) (v : Version) → (is_later v && not b) ≡ false → (eqb (flag_number b) 0 && eqb (number_of v) 0x0200) ≡ false
unlisted true v k = refl
unlisted false V1 k = refl
unlisted false V2 k = k

no_version : (b : Bool) → (eqb (flag_number b) 0 && eqb 0 0x0200) ≡ false
no_version true = refl
no_version false = refl

-- the numbers of a sound stage keep the rules
stage_kept : (n a : Version) (b : Bool) (s : ModemStage) → ModemSoundAt n a b s → Kept (stage_rules (number_of n) (number_of a) (flag_number b) (stage_number s) (settled_number s))
stage_kept n a b Start k = (refl, (refl, (le-ltb (number_of n) 0 (omega arith), (refl, (no_version b, tt)))))
stage_kept n a b Listed k = (refl, (refl, (le-ltb (number_of n) 0 (omega arith), (refl, (no_version b, tt)))))
stage_kept n a b (Settled v) k = (refl, (ap not (known v), (ordered n v k.0, (ordered v a k.1, (unlisted b v k.2, tt)))))

stage_back : (s : ModemStage) → stage_of (stage_number s) (version_of (settled_number s)) ≡ s
stage_back Start = refl
stage_back Listed = refl
stage_back (Settled v) = ap (λ y. Settled y) (version_back v)

front_taken : (x : Modem) (t : List ℕ) → ModemSound x → ModemTakes (modem_bytes x ++ t) x
unfolding modem_at
front_taken x t k =
    let f = fields x t in
    let l = flag_kept x.lists_version in
    let room : modem_size ≤ length (modem_bytes x ++ t) = omega (arith, length-append (modem_bytes x) t, length_modem x) in (
      kept_fits (modem_rules (modem_bytes x ++ t)) (
        le-ltb _ _ room,
        rw (f.0, f.1, f.2, f.3, f.4) (
          ap not (known x.native),
          (ap not (known x.advertised), (ordered x.native x.advertised k.0, (l.0, stage_kept x.native x.advertised x.lists_version x.stage k.1))),
        ),
      ),
      rw (f.0, f.1, f.2, f.3, f.4)
          (λ i. record { native = version_back x.native i; advertised = version_back x.advertised i; lists_version = l.1 i; stage = stage_back x.stage i }),
    )

pub modem_held : (x : Modem) (m : List ℕ) → ModemSound x → modem_size ≤ length m → ModemTakes (sets m 0 (modem_bytes x)) x
modem_held x m k room = rw (stored (modem_bytes x) m (length_modem x) room) (front_taken x (drop modem_size m) k)

-- ---- memory that is taken is that of a sound end

flag_back : (f : ℕ) → ltb 1 f ≡ false → flag_number (not (eqb f 0)) ≡ f
flag_back zero l = refl
flag_back (suc zero) l = refl
flag_back (suc (suc f)) l = absurd (omega (arith, ltb-false 1 (suc (suc f)) l))

-- 2.00 is settled on only where VERSION is listed
listed_back : (f w : ℕ) → is_extension w ≡ true → (eqb f 0 && eqb w 0x0200) ≡ false → (is_later (version_of w) && not (not (eqb f 0))) ≡ false
listed_back f w e k = go (extension_cases w e) (and_cases (eqb f 0) (eqb w 0x0200) k)
  where
    go : (w ≡ 0x0100) ⊎ (w ≡ 0x0200) → (eqb f 0 ≡ false) ⊎ (eqb w 0x0200 ≡ false) → (is_later (version_of w) && not (not (eqb f 0))) ≡ false
    go (inl p) q = rw p
    go (inr p) (inl q) = rw (p, q)
    go (inr p) (inr q) = let z = eq-eqb w 0x0200 p in let y : ◌≡◌ {A = ℕ} 0 1 = cc in absurd (omega arith)

-- a stage of the numbers s and w
record Staged (n a : Version) (b : Bool) (s w : ℕ) (g : ModemStage) : Type 0 where
  sound : ModemSoundAt n a b g
  stage : stage_number g ≡ s
  version : settled_number g ≡ w

staged : (a b f s w : ℕ) → is_extension a ≡ true → is_extension b ≡ true → Kept (stage_rules a b f s w) → Staged (version_of a) (version_of b) (not (eqb f 0)) s w (stage_of s (version_of w))
staged a b f zero w ea eb k = record { sound = tt; stage = refl; version = sym (equal_kept w 0 k.1.0) }
staged a b f (suc zero) w ea eb k = record { sound = tt; stage = refl; version = sym (equal_kept w 0 k.1.0) }
staged a b f (suc (suc zero)) w ea eb k =
    let e = not_kept (is_extension w) k.1.0 in
    let cs = extension_cases w e in
    record {
      sound = (
        advertised_below a w (extension_cases a ea) cs (ltb-false a w k.1.1.0),
        advertised_below w b cs (extension_cases b eb) (ltb-false w b k.1.1.1.0),
        listed_back f w e k.1.1.1.1.0,
      );
      stage = refl;
      version = number_back w e;
    }
staged a b f (suc (suc (suc s))) w ea eb k = absurd (omega (arith, ltb-false 2 (suc (suc (suc s))) k.0))

-- an end of the numbers in the memory
record Numbered (m : List ℕ) (x : Modem) : Type 0 where
  sound : ModemSound x
  native : number_of x.native ≡ u16_at m 0
  advertised : number_of x.advertised ≡ u16_at m 2
  flag : flag_number x.lists_version ≡ u16_at m 4
  stage : stage_number x.stage ≡ u16_at m 6
  version : settled_number x.stage ≡ u16_at m 8

taken_numbered : (m : List ℕ) → judge (modem_rules m) ≡ no_fault → Numbered m (modem_at m)
unfolding modem_at
taken_numbered m e =
    let k = fits_kept (modem_rules m) e in
    let ea = not_kept (is_extension (u16_at m 0)) k.1.0 in
    let eb = not_kept (is_extension (u16_at m 2)) k.1.1.0 in
    let s = staged (u16_at m 0) (u16_at m 2) (u16_at m 4) (u16_at m 6) (u16_at m 8) ea eb k.1.1.1.1.1 in
    record {
      sound = (advertised_below (u16_at m 0) (u16_at m 2) (extension_cases (u16_at m 0) ea) (extension_cases (u16_at m 2) eb) (ltb-false (u16_at m 0) (u16_at m 2) k.1.1.1.0), s.sound);
      native = number_back (u16_at m 0) ea;
      advertised = number_back (u16_at m 2) eb;
      flag = flag_back (u16_at m 4) k.1.1.1.1.0;
      stage = s.stage;
      version = s.version;
    }

taken_front : (m : List ℕ) (x : Modem) → Bytes m → ModemTakes m x → take modem_size m ≡ modem_bytes x
unfolding modem_bytes
taken_front m x b t =
    let n = taken_numbered m t.0 in
    let l = ltb-false (length m) modem_size (fits_kept (modem_rules m) t.0).0 in
    rw (← t.1, n.native, n.advertised, n.flag, n.stage, n.version) (front_of 5 m b l)

-- ---- taken exactly where calls reach

pub one_sound : (x : Modem) (c : ModemCall) → ModemSound x → ModemSound (modem_call x c).after
unfolding modem_call modem_after
one_sound x modem_opens k = (k.0, tt)
one_sound x modem_closes k = (k.0, tt)
one_sound x (modem_receives h s out) k = (modem_kept x (modem_receives h s out) k).1

reached_sound : (x : Modem) → ModemReached x → ModemSound x
reached_sound x r =
    rw (← r.end) (run_sound modem_call ModemSound one_sound r.begun r.calls (modem_made_sound r.made.native r.made.advertised r.made.services r.begun r.made.made))

pub modem_taken_exactly : ModemTakenExactly
modem_taken_exactly m b x = (
  λ t. (modem_reached x (rw (← t.1) (taken_numbered m t.0).sound), taken_front m x b t),
  λ r e. rw (← take-append-drop modem_size m, e) (front_taken x (drop modem_size m) (reached_sound x r)),
)

-- ---- memory serves

abbrev pub Holds : List ℕ → Modem → Type 0
Holds m x = (modem_size ≤ length m) × ModemSound x × ModemTakes m x

-- an end put back at the front of the memory
pub kept_holds : (m : List ℕ) (x : Modem) → modem_size ≤ length m → ModemSound x → Holds (sets m 0 (modem_bytes x)) x
kept_holds m x room k = (rw (length-sets m 0 (modem_bytes x)) room, k, modem_held x m k room)

one_holds : (m : List ℕ) (x : Modem) (c : ModemCall) → Holds m x → ((modem_call_in m c).answer ≡ (modem_call x c).answer) × Holds (modem_call_in m c).after (modem_call x c).after
unfolding modem_call modem_call_in restart_in receive_in modem_in
one_holds m x modem_opens H = rw (H.2.0, H.2.1) (refl, kept_holds m (start_of x) H.0 (H.1.0, tt))
one_holds m x modem_closes H = rw (H.2.0, H.2.1) (refl, kept_holds m (start_of x) H.0 (H.1.0, tt))
one_holds m x (modem_receives h s out) H = rw (H.2.0, H.2.1) (refl, kept_holds m (receive_of x h s out).step.modem H.0 (one_sound x (modem_receives h s out) H.1))

pub made_holds : (m : List ℕ) → modem_size ≤ length m → (native advertised : ℕ) (services : List ℕ) (x : Modem) → made_of native advertised services ≡ Ok x
    → Holds (make_in m native advertised services).memory x
unfolding make_in
made_holds m room native advertised services x e =
    rw (e, le-ltb (length m) modem_size room) (kept_holds m x room (modem_made_sound native advertised services x e))

pub modem_memory_serves : ModemMemoryServes
modem_memory_serves m room native advertised services x e cs =
    let r = run_holds modem_call modem_call_in Holds one_holds (make_in m native advertised services).memory x cs (made_holds m room native advertised services x e) in
    record { answers = r.0; held = r.1.2 }
