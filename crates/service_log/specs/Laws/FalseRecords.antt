-- Laws of false records: each test decides what the definition decides, once those before it have failed.
use Rattle.std.proofs.lemmas.Bool.{lt-leb}
use Rattle.std.proofs.Common.{eq-eqb, ne_eqb, lt-ltb, le-ltb, le-leb}
use Rattle.std.specs.Prelude.{ℕ, ◌≤◌, ◌<◌, true, false, not, ◌≡◌, eqb, ltb}
use Rattle.basis.specs.Units.{start_of}
use Rattle.service_log.specs.Log.{known, few, is_false_of}

module _ (board : ℕ) (o k t n : ℕ) where
  pub false-unknown : known o ≡ false → true ≡ is_false_of board o k t n
  unfolding is_false_of
  false-unknown e = rw e

  module _ (p₁ : known o ≡ true) where
    pub false-few : few o t ≡ true → true ≡ is_false_of board o k t n
    unfolding is_false_of
    false-few e = rw (p₁, e)

    module _ (p₂ : few o t ≡ false) where
      pub false-empty : n ≡ 0 → true ≡ is_false_of board o k t n
      unfolding is_false_of
      false-empty e = rw (p₁, p₂, eq-eqb n 0 e)

      module _ (p₃ : n ≡ 0 → ⊥) where
        pub false-many : start_of board < n → true ≡ is_false_of board o k t n
        unfolding is_false_of
        false-many l = rw (p₁, p₂, ne_eqb n 0 p₃, lt-ltb (start_of board) n l)

        module _ (p₄ : n ≤ start_of board) where
          pub false-above : t < k → true ≡ is_false_of board o k t n
          unfolding is_false_of
          false-above l = rw (p₁, p₂, ne_eqb n 0 p₃, le-ltb (start_of board) n p₄, lt-ltb t k l)

          module _ (p₅ : k ≤ t) where
            pub false-good : o ≤ 1 → not (eqb k t) ≡ is_false_of board o k t n
            unfolding is_false_of
            false-good l =
                rw (
                  p₁,
                  p₂,
                  ne_eqb n 0 p₃,
                  le-ltb (start_of board) n p₄,
                  le-ltb t k p₅,
                  le-leb o 1 l,
                )

            module _ (p₆ : 1 < o) where
              pub false-whole : k ≡ t → true ≡ is_false_of board o k t n
              unfolding is_false_of
              false-whole e =
                  rw (
                    p₁,
                    p₂,
                    ne_eqb n 0 p₃,
                    le-ltb (start_of board) n p₄,
                    le-ltb t k p₅,
                    lt-leb o 1 p₆,
                    eq-eqb k t e,
                  )

              module _ (p₇ : k ≡ t → ⊥) where
                pub true-greeted : (o ≡ 42 → ⊥) → false ≡ is_false_of board o k t n
                unfolding is_false_of
                true-greeted e =
                    rw (
                      p₁,
                      p₂,
                      ne_eqb n 0 p₃,
                      le-ltb (start_of board) n p₄,
                      le-ltb t k p₅,
                      lt-leb o 1 p₆,
                      ne_eqb k t p₇,
                      ne_eqb o 42 e,
                    )

                pub false-ungreeted : o ≡ 42 → ltb 0 k ≡ is_false_of board o k t n
                unfolding is_false_of
                false-ungreeted e =
                    rw (
                      p₁,
                      p₂,
                      ne_eqb n 0 p₃,
                      le-ltb (start_of board) n p₄,
                      le-ltb t k p₅,
                      lt-leb o 1 p₆,
                      ne_eqb k t p₇,
                      eq-eqb o 42 e,
                    )
