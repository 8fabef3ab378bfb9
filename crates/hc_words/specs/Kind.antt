-- The jobs, the words that name them, and their options. The rules are this project's own.
use Rattle.std.specs.Prelude.{◌≡◌, ℕ, List, [], ◌∷◌, Option, Some, None, if◌then◌else◌, codes}
use Rattle.std.specs.Str.{bytes_eq}
use Rattle.hc_words.specs.declared.kind.Kind.{Kind}
use Rattle.hc_words.specs.declared.kind.Kind.TheVariants as kind
use Rattle.hc_words.specs.declared.job.Job.{Job}
use Rattle.hc_words.specs.declared.job.Job.TheVariants as job

-- the job that a first word names
abbrev pub kind_of : List ℕ → Option Kind
kind_of word =
    if bytes_eq word (codes "build") then Some kind.Build
    else (if bytes_eq word (codes "check") then Some kind.Check
    else (if bytes_eq word (codes "sim") then Some kind.Sim
    else (if bytes_eq word (codes "nsim") then Some kind.Nsim
    else (if bytes_eq word (codes "compare") then Some kind.Compare
    else (if bytes_eq word (codes "gen") then Some kind.Gen
    else (if bytes_eq word (codes "cells") then Some kind.Cells else None))))))

-- the names of the options that a job may have, empty where it has none
abbrev pub first_option : Kind → List ℕ
first_option kind.Build = codes "--edif"
first_option kind.Check = []
first_option kind.Sim = codes "--stim"
first_option kind.Nsim = codes "--stim"
first_option kind.Compare = codes "--net"
first_option kind.Gen = []
first_option kind.Cells = []

abbrev pub second_option : Kind → List ℕ
second_option kind.Build = codes "--verilog"
second_option kind.Check = []
second_option kind.Sim = codes "--trace"
second_option kind.Nsim = codes "--trace"
second_option kind.Compare = codes "--stim"
second_option kind.Gen = []
second_option kind.Cells = []

abbrev pub kind_is : Job → Kind
kind_is (job.Build file edif verilog) = kind.Build
kind_is (job.Check file) = kind.Check
kind_is (job.Sim file stim trace) = kind.Sim
kind_is (job.Nsim file stim trace) = kind.Nsim
kind_is (job.Compare file net stim) = kind.Compare
kind_is (job.Gen n) = kind.Gen
kind_is job.Cells = kind.Cells
