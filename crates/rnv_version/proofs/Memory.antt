-- Only a pre-release and a build need memory.
use Rattle.std.proofs.Common.{◌≡◌, Ok, Err, Result, List, ℕ, length, true, false, refl, sym, ap, ◌∙◌}
use Rattle.std.specs.Prelude.{is_ok}
use Rattle.semver.specs.Parse.{Parts, IsPlain, IsRefused, is_memory, version_parts}
use Rattle.semver.specs.declared.error.Error.{Error}
use Rattle.semver.proofs.Grammar.{version_parts-sound}
use Rattle.rnv_version.specs.SemVer.{HoldsText, version_from}
use Rattle.rnv_version.proofs.Calm.{version_parts-calm}

-- a reader that ran out of memory had a text to hold
memory-held : {T : Type 0} (text : List ℕ) (r : Result T Error) (e : Error) (read : Result Parts Error) → version_parts text ≡ read
    → r ≡ Err e → is_memory e.kind ≡ true → IsRefused read r → IsPlain read r → HoldsText text
memory-held text r e (Ok p) is failed memory refused plain =
    let sound = version_parts-sound text p is in
    record {
      version = version_from p;
      readable = sound.1;
      spelled = sym sound.0;
      holds = λ none.
          let ok : is_ok r ≡ true = plain (ap length none.0) (ap length none.1) in
          cc (sym ok ∙ ap is_ok failed);
    }
memory-held text r e (Err d) is failed memory refused plain =
    let same : e ≡ d = cc (sym failed ∙ refused) in
    let calm : is_memory d.kind ≡ false = version_parts-calm text d is in
    cc (sym memory ∙ ap (λ (x : Error). is_memory x.kind) same ∙ calm)

pub memory_holds : {T : Type 0} (text : List ℕ) (r : Result T Error) (e : Error) → r ≡ Err e → is_memory e.kind ≡ true
    → IsRefused (version_parts text) r → IsPlain (version_parts text) r → HoldsText text
memory_holds text r e failed memory refused plain = memory-held text r e (version_parts text) refl failed memory refused plain
