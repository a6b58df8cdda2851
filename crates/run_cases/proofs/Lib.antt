mod Silence
