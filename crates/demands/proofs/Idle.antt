-- No build that keeps demands 2 and 3 is idle.
use Rattle.demands.specs.Builds.{Build, ours, AcceptsGoodFrames, DoesEachCommand}
use Rattle.demands.specs.Idle.{NotIdle}
use Rattle.demands.proofs.Builds.{ours_accepts_good_frames, ours_does_each_command}
use Rattle.demands.proofs.IdleReading.{refuses_some_only, reads_a_second_frame, reads_a_second_stretch}
use Rattle.demands.proofs.IdleCommands.{does_a_command, replies_by_registers, replies_by_words, stores_a_register, stores_a_word}

-- a build that accepts the good frames of demand 3, and does the commands of demand 2, is none of the four
pub not_idle : (build : Build) → AcceptsGoodFrames build → DoesEachCommand build → NotIdle build
not_idle build accepts does =
    record {
      accepts_frames = refuses_some_only build accepts;
      does_commands = does_a_command build does;
      replies_by_registers = replies_by_registers build does;
      replies_by_words = replies_by_words build does;
      stores_registers = stores_a_register build does;
      stores_words = stores_a_word build does;
      reads_on_behind_a_frame = reads_a_second_frame build accepts;
      reads_on_behind_a_stretch = reads_a_second_stretch build accepts;
    }

pub ours_is_not_idle : NotIdle ours
ours_is_not_idle = not_idle ours ours_accepts_good_frames ours_does_each_command
