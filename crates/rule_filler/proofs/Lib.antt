mod DenialLemmas
mod OneRule
mod Replies
