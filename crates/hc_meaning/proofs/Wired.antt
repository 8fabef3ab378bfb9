-- What the circuits say makes a world that is identified.
use Rattle.std.proofs.Common.{◌≡◌, ℕ, sym, ap, ◌∙◌}
use Rattle.hc_meaning.specs.Residual.{Residual}
use Rattle.hc_meaning.specs.Value.{World, Instant}
use Rattle.hc_meaning.specs.Uses.{words_used}
use Rattle.hc_meaning.specs.Nets.{but_for}
use Rattle.hc_meaning.proofs.Identify.{Ported}
use Rattle.hc_meaning.specs.Nets.{Wired}
use Rattle.hc_meaning.proofs.Identify.{is_one}
use Rattle.hc_meaning.proofs.Once.{user_of}

pub ported : (v : World) (r : Residual) (q : Instant) (word : ℕ → ℕ → ℕ) → Wired v r q word → Ported v r q word
ported v r q word d = record {
  agrees = d.agrees;
  ports = λ k u y all m i.
      let w = but_for v q word in
      let same = is_one u y (words_used k w r) all m in
      let a = d.enable k y.0 (user_of k w r y m) in
      let at : (a.0.number, a.0.index) ≡ u = is_one u (a.0.number, a.0.index) (words_used k w r) all (d.index k a.0 a.1 a.3) in
      d.port k a.0 a.1 a.3
      (λ b n e. let to : (b.number, b.index) ≡ u = is_one u (b.number, b.index) (words_used k w r) all (d.index k b n e) in
      d.distinct k b a.0 n a.1 (ap (λ (x : ℕ × ℕ). x.0) (to ∙ sym at)))
      i ∙ ap (λ (x : ℕ × ℕ). v.word k x.1) at;
}
